-- What one sweep asks of the table and the record, and what it leaves.
pub mod Swept
