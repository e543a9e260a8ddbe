-- The widths of the controller's counters, and a counter that wraps at its width (document 01, "One character time").
use Rattle.std.specs.Prelude.{ℕ, ◌+◌, ◌%◌, ◌^◌}
use Rattle.basics.specs.declared.width.Width.{Width}
use Rattle.basics.specs.declared.width.Width.TheVariants.{Five, Seven, Eight, Fourteen}

-- how many bits a width is
abbrev pub bits_of : Width → ℕ
bits_of Five = 5
bits_of Seven = 7
bits_of Eight = 8
bits_of Fourteen = 14

-- a counter of that width, moved on by a step: past its last value it starts again at 0
abbrev pub counted_of : Width → ℕ → ℕ → ℕ
counted_of w x step = (x + step) % 2 ^ bits_of w
