-- Kinds as the code compares them: by the numbers that stand for them in a file, and what is no kind below them all. Assumes nothing.
use lib.Dec.{eqb}
use mathlib.Core.Path.{◌≡◌, refl}
use Rattle.std.specs.Prelude.{Option, None, Some}
use Rattle.std.specs.Ordering.{partial_lt}
use Rattle.std.specs.Option.{option_eq, option_partial_cmp}
use Rattle.setup_file.specs.contracts.kind.KindPartialEq.TheImpl.{eq-value}
use Rattle.setup_file.specs.contracts.kind.KindPartialOrd.TheImpl.{partial_cmp-value}
use Rattle.setup_file.specs.declared.kind.Kind.{Kind}
use Rattle.setup_file.specs.declared.kind.Kind.TheVariants.{Registers, Control, Batch}
use Rattle.setup_file.specs.Setup.{kind_of}
use Rattle.setup_reader.specs.Judged.{rank_of, follows_of}

pub in_order : (last kind : Option Kind) → partial_lt (option_partial_cmp partial_cmp-value.it) last kind ≡ follows_of last kind
unfolding follows_of
in_order None None = refl
in_order None (Some Registers) = refl
in_order None (Some Control) = refl
in_order None (Some Batch) = refl
in_order (Some Registers) None = refl
in_order (Some Registers) (Some Registers) = refl
in_order (Some Registers) (Some Control) = refl
in_order (Some Registers) (Some Batch) = refl
in_order (Some Control) None = refl
in_order (Some Control) (Some Registers) = refl
in_order (Some Control) (Some Control) = refl
in_order (Some Control) (Some Batch) = refl
in_order (Some Batch) None = refl
in_order (Some Batch) (Some Registers) = refl
in_order (Some Batch) (Some Control) = refl
in_order (Some Batch) (Some Batch) = refl

pub same_kind : (kind : Option Kind) (wanted : Kind) → option_eq eq-value.it kind (Some wanted) ≡ eqb (rank_of kind) (kind_of wanted)
same_kind None Registers = refl
same_kind None Control = refl
same_kind None Batch = refl
same_kind (Some Registers) Registers = refl
same_kind (Some Registers) Control = refl
same_kind (Some Registers) Batch = refl
same_kind (Some Control) Registers = refl
same_kind (Some Control) Control = refl
same_kind (Some Control) Batch = refl
same_kind (Some Batch) Registers = refl
same_kind (Some Batch) Control = refl
same_kind (Some Batch) Batch = refl
