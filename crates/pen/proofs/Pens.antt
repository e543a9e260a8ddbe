-- What a strike and a read of its latch do to what is asked of a pen. Assumes nothing.
use mathlib.Core.Path.{◌≡◌, refl}
use mathlib.Core.Bool.{true, false}
use Rattle.pen.specs.Pen.{no_pen, struck_of, emptied_of, holds_of, newest_of}
use Rattle.pen.specs.declared.pen.Pen.{Pen}
use Rattle.pen.specs.declared.pen.Strike.{Strike}

pub none-holds : holds_of no_pen ≡ false
unfolding holds_of no_pen
none-holds = refl

pub none-latch : (newest_of no_pen).latch ≡ 0
unfolding newest_of no_pen
none-latch = refl

module _ (p : Pen) where
  pub struck-holds : (s : Strike) → holds_of (struck_of p s) ≡ true
  unfolding holds_of struck_of
  struck-holds s = refl

  pub struck-newest : (s : Strike) → newest_of (struck_of p s) ≡ s
  unfolding newest_of struck_of
  struck-newest s = refl

  pub emptied-holds : holds_of (emptied_of p) ≡ holds_of p
  unfolding holds_of emptied_of
  emptied-holds = refl

  pub emptied-newest : newest_of (emptied_of p) ≡ newest_of p
  unfolding newest_of emptied_of
  emptied-newest = refl
