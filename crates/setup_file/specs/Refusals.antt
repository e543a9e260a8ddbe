-- The numbers of the refusals (document 02, W6).
use Rattle.std.specs.Prelude.{ℕ}
use Rattle.setup_file.specs.declared.refusal.Refusal.{Refusal}
use Rattle.setup_file.specs.declared.refusal.Refusal.TheVariants.{Contents, Kinds, Places, Bits, Room}

-- 13 the contents, 14 the kinds, 15 an offset or a length, 16 a forbidden bit, 17 too little room for the file
abbrev pub number_of : Refusal → ℕ
number_of Contents = 13
number_of Kinds = 14
number_of Places = 15
number_of Bits = 16
number_of Room = 17
