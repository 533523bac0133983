use Rattle.std.proofs.Common.{[], ◌≡◌, ◌∙◌, refl, true, false, arith, eq-eqb}
use Rattle.std.specs.Prelude.{◌==◌, None}
use Rattle.std.proofs.lemmas.Result.{on_ok_weaker}
use Rattle.server_tables.specs.Listing.{is_live}
use Rattle.server_takes.specs.Messages.{needs_by, told_by}
use Rattle.server_takes.proofs.Bodies.{state_away, state_moved, state_now, state_old, taken_away, taken_moved}
use Rattle.server_takes.proofs.Bodies.{taken_now, taken_old}
use Rattle.server_takes.proofs.taking.take_other.Goals as goal

pub returns-then-not-is_live-clause-taken : goal.returns-then-not-is_live-clause-taken
returns-then-not-is_live-clause-taken g c tells user known =
    let x = c.args.tables.now in
    let d = c.args.draft.now in
    let m = c.args.message.now in
    let state = (g.S.Store.view c.args.keeper.now.store).state in
    taken_away x d m (needs_by state m user m.body) (told_by state m.body) x d (cc) refl refl

pub returns-then-message-tables-clause-taken : goal.returns-then-message-tables-clause-taken
returns-then-message-tables-clause-taken g c tells user known =
    let x = c.args.tables.now in
    let d = c.args.draft.now in
    let m = c.args.message.now in
    let state = (g.S.Store.view c.args.keeper.now.store).state in
    let live : is_live x.hosts m.host ≡ true = cc in
    taken_old x d m (needs_by state m user m.body) (told_by state m.body) x c.say.new.self live
    (λ e. omega (arith, e)) refl c.in_ok-say.ensures

pub returns-then-message-ne0-clause-taken : goal.returns-then-message-ne0-clause-taken
returns-then-message-ne0-clause-taken g c tells user known =
    let x = c.args.tables.now in
    let d = c.args.draft.now in
    let m = c.args.message.now in
    let state = (g.S.Store.view c.args.keeper.now.store).state in
    let live : is_live x.hosts m.host ≡ true = cc in
    let now : (m.epoch == x.hosts.epoch) ≡ true = eq-eqb m.epoch x.hosts.epoch (cc) in
    taken_moved x d m (needs_by state m user m.body) (told_by state m.body) x d live now
    (λ e. omega (arith, e)) refl refl

pub returns-clause-taken : goal.returns-clause-taken
returns-clause-taken g c tells user known =
    let x = c.args.tables.now in
    let d = c.args.draft.now in
    let m = c.args.message.now in
    let state = (g.S.Store.view c.args.keeper.now.store).state in
    let live : is_live x.hosts m.host ≡ true = cc in
    let now : (m.epoch == x.hosts.epoch) ≡ true = eq-eqb m.epoch x.hosts.epoch (cc) in
    let still : (m.moves == 0) ≡ true = eq-eqb m.moves 0 (cc) in
    on_ok_weaker c.take_request.result
    (λ t. taken_now x d m (needs_by state m user m.body)
    (told_by state m.body) c.take_request.new.tables c.take_request.new.draft live now still t)
    (c.take_request.ensures.taken tells user known)

pub returns-then-not-is_live-clause-heard : goal.returns-then-not-is_live-clause-heard
returns-then-not-is_live-clause-heard g c =
    let x = c.args.tables.now in
    let d = c.args.draft.now in
    let m = c.args.message.now in
    let state = (g.S.Store.view c.args.keeper.now.store).state in
    record { needs = []; told = None; taken = taken_away x d m [] None x d (cc) refl refl }

pub returns-then-message-tables-clause-heard : goal.returns-then-message-tables-clause-heard
returns-then-message-tables-clause-heard g c =
    let x = c.args.tables.now in
    let d = c.args.draft.now in
    let m = c.args.message.now in
    let state = (g.S.Store.view c.args.keeper.now.store).state in
    let live : is_live x.hosts m.host ≡ true = cc in
    record {
      needs = [];
      told = None;
      taken = taken_old x d m [] None x c.say.new.self live
          (λ e. omega (arith, e)) refl c.in_ok-say.ensures;
    }

pub returns-then-message-ne0-clause-heard : goal.returns-then-message-ne0-clause-heard
returns-then-message-ne0-clause-heard g c =
    let x = c.args.tables.now in
    let d = c.args.draft.now in
    let m = c.args.message.now in
    let state = (g.S.Store.view c.args.keeper.now.store).state in
    let live : is_live x.hosts m.host ≡ true = cc in
    let now : (m.epoch == x.hosts.epoch) ≡ true = eq-eqb m.epoch x.hosts.epoch (cc) in
    record {
      needs = [];
      told = None;
      taken = taken_moved x d m [] None x d live now
          (λ e. omega (arith, e)) refl refl;
    }

pub returns-clause-heard : goal.returns-clause-heard
returns-clause-heard g c =
    let x = c.args.tables.now in
    let d = c.args.draft.now in
    let m = c.args.message.now in
    let state = (g.S.Store.view c.args.keeper.now.store).state in
    let live : is_live x.hosts m.host ≡ true = cc in
    let now : (m.epoch == x.hosts.epoch) ≡ true = eq-eqb m.epoch x.hosts.epoch (cc) in
    let still : (m.moves == 0) ≡ true = eq-eqb m.moves 0 (cc) in
    on_ok_weaker c.take_request.result (λ h. record {
      needs = h.needs;
      told = h.told;
      taken = taken_now x d m h.needs h.told c.take_request.new.tables c.take_request.new.draft live now still h.taken;
    }) c.take_request.ensures.heard

pub returns-then-not-is_live-clause-state : goal.returns-then-not-is_live-clause-state
returns-then-not-is_live-clause-state g c tells stored =
    let x = c.args.tables.now in
    let d = c.args.draft.now in
    let m = c.args.message.now in
    let state = (g.S.Store.view c.args.keeper.now.store).state in
    state_away x m state m.body (cc)

pub returns-then-message-tables-clause-state : goal.returns-then-message-tables-clause-state
returns-then-message-tables-clause-state g c tells stored =
    let x = c.args.tables.now in
    let d = c.args.draft.now in
    let m = c.args.message.now in
    let state = (g.S.Store.view c.args.keeper.now.store).state in
    let live : is_live x.hosts m.host ≡ true = cc in
    state_old x m state m.body live (λ e. omega (arith, e))

pub returns-then-message-ne0-clause-state : goal.returns-then-message-ne0-clause-state
returns-then-message-ne0-clause-state g c tells stored =
    let x = c.args.tables.now in
    let d = c.args.draft.now in
    let m = c.args.message.now in
    let state = (g.S.Store.view c.args.keeper.now.store).state in
    let live : is_live x.hosts m.host ≡ true = cc in
    let now : (m.epoch == x.hosts.epoch) ≡ true = eq-eqb m.epoch x.hosts.epoch (cc) in
    state_moved x m state m.body live now (λ e. omega (arith, e))

pub returns-clause-state : goal.returns-clause-state
returns-clause-state g c tells stored =
    let x = c.args.tables.now in
    let d = c.args.draft.now in
    let m = c.args.message.now in
    let state = (g.S.Store.view c.args.keeper.now.store).state in
    let live : is_live x.hosts m.host ≡ true = cc in
    let now : (m.epoch == x.hosts.epoch) ≡ true = eq-eqb m.epoch x.hosts.epoch (cc) in
    let still : (m.moves == 0) ≡ true = eq-eqb m.moves 0 (cc) in
    on_ok_weaker c.take_request.result (λ e. e ∙ state_now x m state m.body live now still)
    (c.take_request.ensures.state tells stored)
