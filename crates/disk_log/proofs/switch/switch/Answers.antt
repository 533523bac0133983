use Rattle.std.proofs.Common.{◌+◌, arith}
use Rattle.std.proofs.lemmas.Result.{on_ok_weaker}
use Rattle.base_outside.proofs.Image.{byte_at-holds}
use Rattle.base_outside.proofs.Runs.{then, weaker, changes_settled}
use Rattle.disk_log.proofs.Switching.{then_outside, torn_outside, gates_outside, gates_ahead, still_closed, on_the_way, opened_log, at_opening}
use Rattle.disk_log.proofs.switch.switch.Goals as goal

pub returns-in_err-close_header-clause-crash : goal.returns-in_err-close_header-clause-crash
returns-in_err-close_header-clause-crash g c = λ told.
    let other = c.args.other in
    weaker (c.close_header.ensures.crash told) (λ d left. on_the_way _ _ _ _ c.requires.sides (c.requires.ready told) d (torn_outside other other 1 _ d (omega arith) (omega arith) left.0) left.1)

pub returns-in_err-close_gates-clause-crash : goal.returns-in_err-close_gates-clause-crash
returns-in_err-close_gates-clause-crash g c = λ told.
    let other = c.args.other in
    let first = c.close_header.ensures.same told in
    let out = torn_outside other other 1 _ _ (omega arith) (omega arith) first.0 in
    then
    (weaker (c.close_header.ensures.crash told) (λ d left. on_the_way _ _ _ _ c.requires.sides (c.requires.ready told) d (torn_outside other other 1 _ d (omega arith) (omega arith) left.0) left.1))
    (weaker (changes_settled _ c.in_ok-close_header.ensures.settled c.close_gates.ensures.crash)
    (λ d gates. on_the_way _ _ _ _ c.requires.sides (c.requires.ready told) d (then_outside other _ _ d out (gates_outside other _ d gates)) (gates_ahead _ other _ d c.requires.sides gates first.1)))

pub write_generation-requires-clause-ahead : goal.write_generation-requires-clause-ahead
write_generation-requires-clause-ahead g c = λ told.
    gates_ahead _ c.args.other _ _ c.requires.sides (c.close_gates.ensures.same told) (c.close_header.ensures.same told).1

pub returns-in_err-write_generation-clause-crash : goal.returns-in_err-write_generation-clause-crash
returns-in_err-write_generation-clause-crash g c = λ told.
    let other = c.args.other in
    let first = c.close_header.ensures.same told in
    let out = torn_outside other other 1 _ _ (omega arith) (omega arith) first.0 in
    let next = then_outside other _ _ _ out (gates_outside other _ _ (c.close_gates.ensures.same told)) in
    then (then
    (weaker (c.close_header.ensures.crash told) (λ d left. on_the_way _ _ _ _ c.requires.sides (c.requires.ready told) d (torn_outside other other 1 _ d (omega arith) (omega arith) left.0) left.1))
    (weaker (changes_settled _ c.in_ok-close_header.ensures.settled c.close_gates.ensures.crash)
    (λ d gates. on_the_way _ _ _ _ c.requires.sides (c.requires.ready told) d (then_outside other _ _ d out (gates_outside other _ d gates)) (gates_ahead _ other _ d c.requires.sides gates first.1))))
    (weaker (c.write_generation.ensures.crash told)
    (λ d left. on_the_way _ _ _ _ c.requires.sides (c.requires.ready told) d (then_outside other _ _ d next (torn_outside other (other + 8) 8 _ d (omega arith) (omega arith) left.0)) left.1))

pub returns-clause-crash : goal.returns-clause-crash
returns-clause-crash g c = λ told.
    let other = c.args.other in
    let first = c.close_header.ensures.same told in
    let out = torn_outside other other 1 _ _ (omega arith) (omega arith) first.0 in
    let next = then_outside other _ _ _ out (gates_outside other _ _ (c.close_gates.ensures.same told)) in
    let last = c.write_generation.ensures.same told in
    let there = then_outside other _ _ _ next (torn_outside other (other + 8) 8 _ _ (omega arith) (omega arith) last.0) in
    then (then (then
    (weaker (c.close_header.ensures.crash told) (λ d left. on_the_way _ _ _ _ c.requires.sides (c.requires.ready told) d (torn_outside other other 1 _ d (omega arith) (omega arith) left.0) left.1))
    (weaker (changes_settled _ c.in_ok-close_header.ensures.settled c.close_gates.ensures.crash)
    (λ d gates. on_the_way _ _ _ _ c.requires.sides (c.requires.ready told) d (then_outside other _ _ d out (gates_outside other _ d gates)) (gates_ahead _ other _ d c.requires.sides gates first.1))))
    (weaker (c.write_generation.ensures.crash told)
    (λ d left. on_the_way _ _ _ _ c.requires.sides (c.requires.ready told) d (then_outside other _ _ d next (torn_outside other (other + 8) 8 _ d (omega arith) (omega arith) left.0)) left.1)))
    (weaker c.write_through.ensures.crash
    (λ d torn. at_opening _ _ other _ c.requires.sides (c.requires.ready told) _ there last.1 (still_closed other _ _ (c.in_ok-close_gates.ensures.closed told) last.0) (c.in_ok-write_generation.ensures.written told) d torn))

pub returns-clause-switched : goal.returns-clause-switched
returns-clause-switched g c = λ told.
    let other = c.args.other in
    let first = c.close_header.ensures.same told in
    let out = torn_outside other other 1 _ _ (omega arith) (omega arith) first.0 in
    let next = then_outside other _ _ _ out (gates_outside other _ _ (c.close_gates.ensures.same told)) in
    let last = c.write_generation.ensures.same told in
    let there = then_outside other _ _ _ next (torn_outside other (other + 8) 8 _ _ (omega arith) (omega arith) last.0) in
    on_ok_weaker c.write_through.result
    (λ holds. opened_log _ _ other _ c.requires.sides (c.requires.ready told) _ there last.1 (still_closed other _ _ (c.in_ok-close_gates.ensures.closed told) last.0) (c.in_ok-write_generation.ensures.written told) _ (c.write_through.ensures.torn told) (byte_at-holds _ _ _ holds))
    (c.write_through.ensures.written told)
