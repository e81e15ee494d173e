-- What reading a field at a place finds, and when that is the field that must stand there.
pub mod Field
