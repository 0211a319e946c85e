use Rattle.showing.proofs.Readable.{shown_readable}
use Rattle.roundtrip.proofs.Trip.{round_trip}
use Rattle.show.proofs.show.show.Goals as goal

pub returns-then-not-is_sound-clause-short : goal.returns-then-not-is_sound-clause-short
returns-then-not-is_sound-clause-short g c = shown_readable g.L.Label.kind g.met.L.Label.lawful

pub returns-then-not-is_sound-clause-again : goal.returns-then-not-is_sound-clause-again
returns-then-not-is_sound-clause-again g c = round_trip g.L.Label.kind g.met.L.Label.lawful

pub returns-then-length-out-clause-short : goal.returns-then-length-out-clause-short
returns-then-length-out-clause-short g c = shown_readable g.L.Label.kind g.met.L.Label.lawful

pub returns-then-length-out-clause-again : goal.returns-then-length-out-clause-again
returns-then-length-out-clause-again g c = round_trip g.L.Label.kind g.met.L.Label.lawful

pub returns-clause-short : goal.returns-clause-short
returns-clause-short g c = shown_readable g.L.Label.kind g.met.L.Label.lawful

pub returns-clause-again : goal.returns-clause-again
returns-clause-again g c = round_trip g.L.Label.kind g.met.L.Label.lawful
