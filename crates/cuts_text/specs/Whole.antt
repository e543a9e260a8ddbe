-- What the program `cuts` prints: the texts of all calls, one after the other (document 02, W3). That `main` prints them so is no
-- statement: it is held to its words.
use Rattle.std.specs.Prelude.{ℕ, zero, suc, List, [], ◌∷◌, ◌++◌, Option, Some, None, length, drop}
use Rattle.basics.specs.Choice.{when◌then◌else◌}
use Rattle.line.specs.Line.{fresh_line}
use Rattle.line.specs.declared.calls.Line.{Line}
use Rattle.cuts_text.specs.Asked.{is_list_of}
use Rattle.cuts_text.specs.Made.{call_text_of, made_of}
use Rattle.cuts_text.specs.declared.made.Made.{Made}

-- the text of a call, if there is one, and then what f gives of what it left
abbrev pub text_then : Option Made → List ℕ → (Made → List ℕ) → List ℕ
text_then None text f = []
text_then (Some m) text f = text ++ f m

-- call after call on one line, so many at the most, as long as there is one
unfoldable pub calls_text_in : ℕ → Line → List ℕ → List ℕ
calls_text_in zero l rest = []
calls_text_in (suc k) l rest = text_then (made_of l rest) (call_text_of l rest) (λ (m : Made). calls_text_in k m.line (drop m.used rest))

-- `no call`
abbrev pub no_call : List ℕ
no_call = 110 ∷ 111 ∷ 32 ∷ 99 ∷ 97 ∷ 108 ∷ 108 ∷ 10 ∷ []

-- an input that is no list of calls is told so, and none of its calls is made
unfoldable pub cuts_text_of : List ℕ → List ℕ
cuts_text_of input = when is_list_of input then calls_text_in (length input) fresh_line input else no_call
