use Rattle.host_manager.proofs.taking.learn_home.Goals as goal

pub returns : goal.returns
returns c =
    let m = c.args.tables.now in
    λ i. record m { homes = c.in_ok-note_home.ensures i; request = c.forget_request.ensures i }
