-- The light pen (document 01, "Controller registers" and "One character time"). All that is asked of a pen is asked by these
-- definitions: no other crate names its fields.
use Rattle.std.specs.Prelude.{Bool, true, false}
use Rattle.pen.specs.declared.pen.Pen.{Pen}
use Rattle.pen.specs.declared.pen.Strike.{Strike}

-- no strike yet
unfoldable pub no_pen : Pen
no_pen = record { last = record { latch = 0; inside = false }; any = false; full = false }

-- a strike more: an earlier one is forgotten, and L is set
unfoldable pub struck_of : Pen → Strike → Pen
struck_of p s = record { last = s; any = true; full = true }

-- L cleared; the latch stays
unfoldable pub emptied_of : Pen → Pen
emptied_of p = record { last = p.last; any = p.any; full = false }

-- whether there was a strike since the reset
unfoldable pub holds_of : Pen → Bool
holds_of p = p.any

-- the newest strike; where there was none its latch is 0, and R16 and R17 read so
unfoldable pub newest_of : Pen → Strike
newest_of p = p.last

-- L: the newest strike's latch has not been read
unfoldable pub unread_of : Pen → Bool
unread_of p = p.full
