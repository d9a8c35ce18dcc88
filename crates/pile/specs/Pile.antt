-- The live lowest lock, and the pile: one allowance over it.
use Rattle.locks.specs.Allowed.{allowance, marked}
use Rattle.locks.specs.Layer.{layered}
use Rattle.locks.specs.Meaning.{Meaning}
use Rattle.locks.specs.declared.allowance.Allowance.{Allowance}
use Rattle.locks.specs.declared.live.Live.{Live}
use Rattle.lowest.specs.Lowest.{lowest_lock}
use Rattle.lowest.specs.declared.lowest.Lowest.{Lowest}
use Rattle.lowest.specs.contracts.lowest.LowestLock.TheImpl.{ghosts}

abbrev pub live_lock : Live Lowest ghosts → Meaning
live_lock live = lowest_lock live.lower

abbrev pub pile_meaning : Allowance (Live Lowest ghosts) → Meaning
pile_meaning pile = layered (live_lock pile.lower) (allowance (marked pile.marks) pile.most)
