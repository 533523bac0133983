use Rattle.std.proofs.Common.{◌≡◌, ◌∙◌, true, sym, rules}
use Rattle.std.specs.Option.{option_map}
use Rattle.std.proofs.lemmas.Result.{IfOk-weaker}
use Rattle.need_host.specs.Questions.{fileset_of}
use Rattle.store_state.specs.Rows.{found_named}
use Rattle.server_keeps.specs.Asking.{entered_told, is_own}
use Rattle.server_looks.proofs.Again.{entered_is}
use Rattle.server_looks.proofs.looking.fileset_entered.Goals as goal

pub returns-in-Some-clause-entered : goal.returns-in-Some-clause-entered
returns-in-Some-clause-entered g c tells =
    let state = (g.S.Store.view c.args.keeper.now.store).state in
    let call = c.args.call.now in
    let name = c.in-Some.name.now in
    let own : is_own c.args.server (option_map (λ p. p.0) (fileset_of call)) ≡ true = search rules in
    let same = entered_is state c.args.server (fileset_of call) name c.requires.of own c.in-Some.ensures in
    IfOk-weaker c.find.result (λ found. found ≡ found_named state name) (λ found. found ≡ entered_told state call)
    (λ found e. e ∙ sym same) (c.find.ensures.found tells)
