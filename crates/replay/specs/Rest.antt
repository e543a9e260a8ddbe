-- The unread rest of a batch (document 01, "Records and what comes back").
use Rattle.std.specs.Prelude.{ℕ, ◌+◌, min, List, length, drop}

-- what stands past the bytes taken; nothing when told of more bytes than there are
abbrev pub rest_of : List ℕ → ℕ → List ℕ
rest_of batch taken = drop taken batch

-- where it lies: in the batch's own memory, past the bytes taken from the batch's place on; at its end when told of more than there are
abbrev pub rest_at : ℕ × ℕ → List ℕ → ℕ → ℕ × ℕ
rest_at place batch taken = (place.0, place.1 + min taken (length batch))
