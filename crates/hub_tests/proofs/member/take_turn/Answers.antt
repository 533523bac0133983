use Rattle.hub_tests.proofs.member.take_turn.Goals as goal

pub turn-requires-clause-sound : goal.turn-requires-clause-sound
turn-requires-clause-sound g c = c.requires.heard.sound c.args.hub.now.roster c.requires.ring
