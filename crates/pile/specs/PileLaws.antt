-- The pile of a file is a lock, and a live one.
use Rattle.locks.specs.Meaning.{Lawful, Live as Lives}
use Rattle.locks.specs.Allowed.{allowance, marked}
use Rattle.locks.specs.LayerLaws.{layered_lawful, layered_live}
use Rattle.locks.specs.AllowanceLaws.{allowance_sound, allowance_lively}
use Rattle.locks.specs.declared.allowance.Allowance.{Allowance}
use Rattle.locks.specs.declared.live.Live.{Live}
use Rattle.lowest.specs.LowestLaws.{lowest_lawful}
use Rattle.lowest.specs.declared.lowest.Lowest.{Lowest}
use Rattle.lowest.specs.contracts.lowest.LowestLock.TheImpl.{ghosts}
use Rattle.pile.specs.Pile.{live_lock, pile_meaning}

pub pile_lawful : (p : Allowance (Live Lowest ghosts)) → Lawful (pile_meaning p)
pile_lawful p =
    layered_lawful (live_lock p.lower) (allowance (marked p.marks) p.most) (lowest_lawful p.lower.lower) (allowance_sound (marked p.marks) p.most)

pub pile_live : (p : Allowance (Live Lowest ghosts)) → Lives (pile_meaning p)
pile_live p =
    layered_live (live_lock p.lower) (allowance (marked p.marks) p.most) p.lower.live (allowance_lively (marked p.marks) p.most)
