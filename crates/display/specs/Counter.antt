-- The display counter and its fetches (document 01, "The multiplexer", the paragraph on display modes).
use Rattle.std.specs.Prelude.{ℕ, ◌+◌, ◌-◌, ◌%◌, nat_lt}
use Rattle.basics.specs.Bits.{bit}
use Rattle.basics.specs.Choice.{when◌then◌else◌}
use Rattle.basics.specs.Iterate.{iterate}
use Rattle.display.specs.declared.counter.Display.{Display}
use Rattle.display.specs.declared.modes.Mode.{Mode}

-- as the multiplexer starts, and after its reset: address and dividers 0
abbrev pub start_of : Display
start_of = record { b = 0; x = 0; y = 0 }

-- the counter with another address
abbrev pub with_b : ℕ → Display → Display
with_b b d = record { b = b; x = d.x; y = d.y }

-- with another X divider
abbrev pub with_x : ℕ → Display → Display
with_x x d = record { b = d.b; x = x; y = d.y }

-- with another Y divider
abbrev pub with_y : ℕ → Display → Display
with_y y d = record { b = d.b; x = d.x; y = y }

-- B5..B15 as a number of their own, one more; past the last they start again at 0
unfoldable pub advanced : Display → Display
advanced d = with_b ((d.b + 32) % 65536) d

-- A fall of B4 is one count of the Y divider. The count that reaches the mode's Y starts the divider again and moves B5..B15 on.
-- A divider found at or past Y, as after a change of mode, does the same at its next count.
unfoldable pub count_y : Mode → Display → Display
count_y m d = when nat_lt (d.y + 1) m.y then with_y (d.y + 1) d else advanced (with_y 0 d)

-- B4 changes: from 1 to 0 it falls
unfoldable pub flip_b4 : Mode → Display → Display
flip_b4 m d = when bit 4 d.b then count_y m (with_b (d.b - 16) d) else with_b (d.b + 16) d

-- A fall of B3 is one count of the X divider, which goes as the Y divider does: the count that reaches X, or is past it, starts it
-- again and flips B4.
unfoldable pub count_x : Mode → Display → Display
count_x m d = when nat_lt (d.x + 1) m.x then with_x (d.x + 1) d else flip_b4 m (with_x 0 d)

-- A fetch counts B0..B3 on by one. From 15 they start again at 0, and that is a fall of B3.
unfoldable pub fetch_of : Mode → Display → Display
fetch_of m d = when nat_lt (d.b % 16) 15 then with_b (d.b + 1) d else count_x m (with_b (d.b - 15) d)

-- n fetches under one mode
abbrev pub fetches_of : Mode → ℕ → Display → Display
fetches_of m n d = iterate (fetch_of m) n d
