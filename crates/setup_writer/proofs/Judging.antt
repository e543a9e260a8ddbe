-- What the writer's answer tells. Assumes nothing.
use Prim.Native.Nat.{ℕ, ◌<◌, ◌≤◌}
use mathlib.Core.Bool.{Bool, true, false}
use mathlib.Core.Path.{◌≡◌, refl}
use native.Mathlib.Omega.{arith}
use lib.Dec.{leb, ltb}
use borrow.Author.Tests.{leb-true, ltb-true, lt-ltb, le-ltb, le-leb, lt-leb}
use Rattle.std.specs.Prelude.{Result, Ok, Err}
use Rattle.basics.specs.Choice.{when◌then◌else◌}
use Rattle.setup_file.specs.Setup.{most_batch}
use Rattle.setup_file.specs.declared.refusal.Refusal.{Refusal}
use Rattle.setup_file.specs.declared.refusal.Refusal.TheVariants as why
use Rattle.setup_writer.specs.Write.{judged_of}

-- a question that a setup which is written has passed
passed : (t : Bool) (w : Result ℕ Refusal) (r : Refusal) (n : ℕ) → (when t then w else Err r) ≡ Ok n → (t ≡ true) × (w ≡ Ok n)
unfolding when◌then◌else◌
passed true w r n q = (refl, q)
passed false w r n q = let z : ◌≡◌ {A = ℕ} 0 1 = cc in absurd (omega arith)

-- a setup is written just when it has a part, a batch that is not too long, no forbidden bit, and a file that has room
pub record Fits (parts batch : ℕ) (clean : Bool) (long room n : ℕ) : Type 0 where
  pub some : 0 < parts
  pub small : batch ≤ most_batch
  pub tidy : clean ≡ true
  pub enough : long ≤ room
  pub is : n ≡ long

pub judged-fits : (parts batch : ℕ) (clean : Bool) (long room n : ℕ) → judged_of parts batch clean long room ≡ Ok n → Fits parts batch clean long room n
unfolding judged_of
judged-fits parts batch clean long room n q =
    let a = passed (ltb 0 parts) _ _ n q in
    let b = passed (leb batch most_batch) _ _ n a.1 in
    let d = passed clean _ _ n b.1 in
    let e = passed (leb long room) _ _ n d.1 in
    record { some = ltb-true 0 parts a.0; small = leb-true batch most_batch b.0; tidy = d.0; enough = leb-true long room e.0; is = cc e.1 }

pub fits-judged : (parts batch : ℕ) (clean : Bool) (long room : ℕ) → Fits parts batch clean long room long → judged_of parts batch clean long room ≡ Ok long
unfolding judged_of when◌then◌else◌
fits-judged parts batch clean long room f = rw (lt-ltb 0 parts f.some, le-leb batch most_batch f.small, f.tidy, le-leb long room f.enough)

-- and each refusal where its own question is the first that is not passed
module _ (parts batch : ℕ) (clean : Bool) (long room : ℕ) where
  pub no-part : parts ≡ 0 → judged_of parts batch clean long room ≡ Err why.Contents
  unfolding judged_of when◌then◌else◌
  no-part none = let h : ltb 0 parts ≡ false = le-ltb 0 parts (omega arith) in rw h

  pub too-long : 0 < parts → most_batch < batch → judged_of parts batch clean long room ≡ Err why.Places
  unfolding judged_of when◌then◌else◌
  too-long some over = rw (lt-ltb 0 parts some, lt-leb batch most_batch over)

  pub forbidden : 0 < parts → batch ≤ most_batch → clean ≡ false → judged_of parts batch clean long room ≡ Err why.Bits
  unfolding judged_of when◌then◌else◌
  forbidden some small untidy = rw (lt-ltb 0 parts some, le-leb batch most_batch small, untidy)

  pub no-room : 0 < parts → batch ≤ most_batch → clean ≡ true → room < long → judged_of parts batch clean long room ≡ Err why.Room
  unfolding judged_of when◌then◌else◌
  no-room some small tidy over = rw (lt-ltb 0 parts some, le-leb batch most_batch small, tidy, lt-leb long room over)

pub ruleset questions = (no-part, too-long, forbidden, no-room, fits-judged)
