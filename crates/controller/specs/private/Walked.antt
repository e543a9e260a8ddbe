-- The part of the controller that walks, and the controller after a walk (document 01, "One character time").
use Rattle.facts.specs.Facts.{facts_of}
use Rattle.clocks.specs.declared.place.Place.{Place}
use Rattle.clocks.specs.declared.place.Walk.{Walk}
use Rattle.controller.specs.declared.chip.Controller.{Controller}

-- the part of the controller that walks: its scan and its syncs
abbrev pub place_of : Controller → Place
place_of c = record { scan = c.scan; sync = c.sync }

-- the controller after a walk: where it came to, and the facts of the place that it left last
unfoldable pub walked_of : Controller → Walk → Controller
walked_of c w = record {
  regs = c.regs;
  scan = w.place.scan;
  sync = w.place.sync;
  left = facts_of c.regs w.from;
  pen = c.pen;
}
