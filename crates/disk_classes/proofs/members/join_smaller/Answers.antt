use Rattle.disk_classes.proofs.members.join_smaller.Goals as goal

pub join-requires-clause-within : goal.join-requires-clause-within
join-requires-clause-within c = λ m there. c.requires.within c.args.one m there

pub join-requires-else-len-clause-within : goal.join-requires-else-len-clause-within
join-requires-else-len-clause-within c = λ m there. c.requires.within c.args.other m there
