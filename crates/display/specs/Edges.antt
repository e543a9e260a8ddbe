-- HS and DA0 at the display counter (document 01, "The multiplexer", the paragraph on display modes).
use Rattle.std.specs.Prelude.{ℕ, ◌+◌, ◌*◌, ◌/◌, ◌%◌, ◌^◌, Bool, ◌==◌}
use Rattle.basics.specs.Bits.{bit, num}
use Rattle.basics.specs.Choice.{when◌then◌else◌}
use Rattle.display.specs.declared.counter.Display.{Display}
use Rattle.display.specs.declared.modes.Mode.{Mode}
use Rattle.display.specs.Counter.{with_b, count_x, count_y}

-- the counter with B1 up to bit k cleared: what lies above bit k, and B0, stay
abbrev pub cleared_to : ℕ → Display → Display
cleared_to k d = with_b (d.b / 2 ^ (k + 1) * 2 ^ (k + 1) + d.b % 2) d

-- A fall of HS clears B1 up to the mode's top bit. Where the top bit itself goes from 1 to 0 that is a fall of it and counts onward, B4
-- in Y and B3 in X; the other cleared bits count nothing, so with top bit 4 a cleared B3 is no fall.
-- Decision: a mode whose top bit is neither 3 nor 4 (in the table: none) clears nothing.
unfoldable pub fall_of : Mode → Display → Display
fall_of m d =
    when m.top == 4 then (when bit 4 d.b then count_y m (cleared_to 4 d) else cleared_to 4 d)
    else when m.top == 3 then (when bit 3 d.b then count_x m (cleared_to 3 d) else cleared_to 3 d)
    else d

-- A rise of HS with DA0 high preloads: F goes to B9..B15, B1..B8 and both dividers become 0. B0 is left to what follows.
-- Decision: of f only the seven bits that F has count.
unfoldable pub preload_of : ℕ → Display → Display
preload_of f d = record { b = f % 128 * 512 + d.b % 2; x = 0; y = 0 }

-- B0 takes the level of DA0; it is put, not counted, so nothing moves with it
unfoldable pub with_b0 : Bool → Display → Display
with_b0 da0 d = with_b (d.b / 2 * 2 + num da0) d
