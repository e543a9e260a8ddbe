-- A record by its four bytes, in the order in which they are sent (document 01, "Records and what comes back").
use Rattle.std.specs.Prelude.{ℕ, List, get_or}
use Rattle.record.specs.declared.sent.Record.{Record}

-- the record that four bytes are
abbrev pub record_of : List ℕ → Record
record_of bytes = record { kind = get_or bytes 0 0; hi = get_or bytes 1 0; lo = get_or bytes 2 0; value = get_or bytes 3 0 }
