-- Every controller that calls can reach from power-on stays within its widths. Assumes nothing.
use mathlib.Core.List.{List, [], ◌∷◌}
use Rattle.controller.specs.Chip.{fresh_of}
use Rattle.controller.specs.Widths.{Within}
use Rattle.controller.specs.declared.chip.Controller.{Controller}
use Rattle.controller.proofs.Widths.{fresh-within, reset-within, write-within, strike-within, read-within, clock-within}
use Rattle.frames.specs.Calls.{Call, write, read, clock, strike, reset, after_call, after_calls}

call-within : (a : Call) (c : Controller) → Within c → Within (after_call a c)
unfolding after_call
call-within (write rs v) c f = write-within c f rs v
call-within (read rs) c f = read-within c f rs
call-within (clock n) c f = clock-within n c f
call-within strike c f = strike-within c f
call-within reset c f = reset-within c f

calls-within : (l : List Call) (c : Controller) → Within c → Within (after_calls l c)
unfolding after_calls
calls-within [] c f = f
calls-within (a ∷ l) c f = calls-within l (after_call a c) (call-within a c f)

pub reached-within : (l : List Call) → Within (after_calls l fresh_of)
reached-within l = calls-within l fresh_of fresh-within
