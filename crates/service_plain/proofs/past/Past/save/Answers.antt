use Rattle.service_plain.proofs.past.Past.save.Goals as goal

pub returns : goal.returns
returns c = record { stored = _; history = c.in_ok-append.ensures.ok; stores = c.in_ok-stored.ensures }
