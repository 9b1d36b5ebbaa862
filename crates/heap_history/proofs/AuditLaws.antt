-- Audits of receipts whose entries are kept.
use Rattle.std.proofs.Common.{ℕ, List, [], ◌∷◌}
use Rattle.heap_trail.specs.declared.Action.{Action}
use Rattle.heap_history.specs.declared.entry.Entry.{Entry}
use Rattle.heap_history.specs.declared.receipt.Receipt.{Receipt}
use Rattle.heap_history.specs.Audits.{AllAreKept, Audits, AuditsKept}

pub kept_claims_are_audited : (dropped : ℕ) (es : List Entry) (last : ℕ) (claims : List (Action × Receipt)) → AuditsKept dropped es last claims → AllAreKept dropped es claims → Audits es last claims
kept_claims_are_audited dropped es last [] agree kept = tt
kept_claims_are_audited dropped es last (c ∷ cs) agree kept = (agree.0, agree.1 kept.0, kept_claims_are_audited dropped es c.1.turn cs agree.2 kept.1)
