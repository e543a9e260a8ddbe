-- What a frame does, in seven numbers (document 02, W1). Five are taken over the list of its character times, two over the list of the
-- changes between each of them and the next. The times are the controller's own: clocked by its rules, with the outputs that it shows.
use Rattle.std.specs.Prelude.{ℕ, suc, ◌≤◌, Bool, List, map}
use Rattle.std.specs.Int.Bits.{bit_xor}
use Rattle.std.specs.Int.Count.{ones}
use Rattle.basics.specs.Bits.{num}
use Rattle.basics.specs.Count.{count}
use Rattle.controller.specs.Chip.{clock_of}
use Rattle.controller.specs.Pins.{outputs_of}
use Rattle.controller.specs.declared.chip.Controller.{Controller}
use Rattle.controller.specs.declared.pins.Outputs.{Outputs}
use Rattle.frames.specs.Places.{frame_times}
use Rattle.tally.specs.Sums.{sum, greatest}
use Rattle.tally.specs.declared.tally.Tally.{Tally}

-- what the controller shows t character times from now
unfoldable pub shown_of : Controller → ℕ → Outputs
shown_of c t = outputs_of (clock_of t c)

-- n character times from now on, each with what is shown at it
abbrev pub times_of : Controller → ℕ → List Outputs
times_of c n = map (shown_of c) (count 0 n)

-- how many of a list of character times show something
abbrev pub how_many : (Outputs → Bool) → List Outputs → ℕ
how_many shows times = sum (map (λ (o : Outputs). num (shows o)) times)

-- in how many address lines two addresses differ: those set in their exclusive or
abbrev pub changed_of : ℕ → ℕ → ℕ
changed_of from to = ones (bit_xor from to)

-- The address lines that change from the t-th character time to the one after it. After a frame's last comes the next frame's first, with
-- the address that the scan shows there.
unfoldable pub change_of : Controller → ℕ → ℕ
change_of c t = changed_of (shown_of c t).ma (shown_of c (suc t)).ma

-- these changes for n character times
abbrev pub changes_of : Controller → ℕ → List ℕ
changes_of c n = map (change_of c) (count 0 n)

-- The seven numbers of n character times: how many are in the picture, and how many have display enable, cursor, HSYNC and VSYNC high (the
-- picture is the fact, the others are the pins, so that a delay counts); all changes of address lines, and the greatest single one.
unfoldable pub tallied_of : Controller → ℕ → Tally
tallied_of c n = record {
  picture = how_many (λ o. o.picture) (times_of c n);
  display = how_many (λ o. o.display) (times_of c n);
  cursor = how_many (λ o. o.cursor) (times_of c n);
  hsync = how_many (λ o. o.hsync) (times_of c n);
  vsync = how_many (λ o. o.vsync) (times_of c n);
  changed = sum (changes_of c n);
  most = greatest (changes_of c n);
}

-- Those of one frame: as many character times as demand 3 gives a frame, from where the controller stands; a reset leaves it where a frame
-- begins.
unfoldable pub tally_of : Controller → Tally
tally_of c = tallied_of c (frame_times c.regs)

-- nothing counted
abbrev pub no_tally : Tally
no_tally = record { picture = 0; display = 0; cursor = 0; hsync = 0; vsync = 0; changed = 0; most = 0 }

-- none of the seven above n
pub record AtMost (n : ℕ) (k : Tally) : Type 0 where
  pub picture : k.picture ≤ n
  pub display : k.display ≤ n
  pub cursor : k.cursor ≤ n
  pub hsync : k.hsync ≤ n
  pub vsync : k.vsync ≤ n
  pub changed : k.changed ≤ n
  pub most : k.most ≤ n
