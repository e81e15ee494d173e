-- `Cursor::field` reads the field at the cursor.
use Rattle.field.proofs.Laws.{read_end, read_short, read_cut, read_whole}
use Rattle.field.proofs.Cursor.field.Goals as goal

pub returns-then-s-at : goal.returns-then-s-at
returns-then-s-at c = read_end _ _ c.if-s-at.true

pub returns-then-s-at-lt3 : goal.returns-then-s-at-lt3
returns-then-s-at-lt3 c = read_short _ _ c.if-s-at.false c.if-s-at-lt3.true

pub returns-then-size-s : goal.returns-then-size-s
returns-then-size-s c =
    read_whole _ _ c.if-s-at.false c.if-s-at-lt3.false _ c.pair_at-size.ensures.0 c.if-size-s.true

pub returns-else-size-s : goal.returns-else-size-s
returns-else-size-s c =
    read_cut _ _ c.if-s-at.false c.if-s-at-lt3.false _ c.pair_at-size.ensures.0 c.if-size-s.false
