use Rattle.std.proofs.Common.{[], ◌≡◌, refl, sym, subst, ◌∙◌, ap, false}
use Rattle.std.specs.Prelude.{None, OnOk}
use Rattle.std.proofs.lemmas.Result.{on_ok_weaker}
use Rattle.message_types.specs.declared.message.Body.{Body}
use Rattle.server_tables.specs.Listing.{has_host}
use Rattle.server_takes.specs.Messages.{body_state, needs_by, told_by}
use Rattle.server_takes.specs.Taking.{IsBodyTaken}
use Rattle.server_takes.proofs.Bodies.{body_other, on_both, other_taken, state_down, state_up, taken_down, taken_up}
use Rattle.server_takes.proofs.taking.take_message.Goals as goal

pub returns-then-is_down-clause-taken : goal.returns-then-is_down-clause-taken
returns-then-is_down-clause-taken g c tells user known =
    let x = c.args.tables.now in
    let d = c.args.draft.now in
    let m = c.args.message.now in
    let state = (g.S.Store.view c.args.keeper.now.store).state in
    taken_down x d m (needs_by state m user m.body) (told_by state m.body) x d (cc) refl refl

pub returns-then-is_down-clause-state : goal.returns-then-is_down-clause-state
returns-then-is_down-clause-state g c tells stored =
    state_down c.args.tables.now c.args.message.now (g.S.Store.view c.args.keeper.now.store).state (cc)

pub returns-in-Down-clause-taken : goal.returns-in-Down-clause-taken
returns-in-Down-clause-taken g c tells user known =
    let x = c.args.tables.now in
    let d = c.args.draft.now in
    let m = c.args.message.now in
    let y = c.take_down.new.tables in
    let e = c.take_down.new.draft in
    let state = (g.S.Store.view c.args.keeper.now.store).state in
    let needs = needs_by state m user m.body in
    let told = told_by state m.body in
    let up : has_host x.hosts.down m.host ≡ false = cc in
    on_both c.take_down.result _ _ _ (λ p q. taken_up x d m needs told y e up
    (subst (λ (b : Body). IsBodyTaken x d m needs told y e b) (sym c.in-Down.is) (record { tables = p; draft = q })))
    c.take_down.ensures.tables c.take_down.ensures.draft

pub returns-in-Hello-clause-taken : goal.returns-in-Hello-clause-taken
returns-in-Hello-clause-taken g c tells user known =
    let x = c.args.tables.now in
    let d = c.args.draft.now in
    let m = c.args.message.now in
    let y = c.take_hello.new.tables in
    let e = c.take_hello.new.draft in
    let state = (g.S.Store.view c.args.keeper.now.store).state in
    let needs = needs_by state m user m.body in
    let told = told_by state m.body in
    let up : has_host x.hosts.down m.host ≡ false = cc in
    on_both c.take_hello.result _ _ _ (λ p q. taken_up x d m needs told y e up
    (subst (λ (b : Body). IsBodyTaken x d m needs told y e b) (sym c.in-Hello.is) (record { tables = p; draft = q })))
    c.take_hello.ensures.tables c.take_hello.ensures.draft

pub returns-in-Bye-clause-taken : goal.returns-in-Bye-clause-taken
returns-in-Bye-clause-taken g c tells user known =
    let x = c.args.tables.now in
    let d = c.args.draft.now in
    let m = c.args.message.now in
    let y = c.take_bye.new.tables in
    let e = c.take_bye.new.draft in
    let state = (g.S.Store.view c.args.keeper.now.store).state in
    let needs = needs_by state m user m.body in
    let told = told_by state m.body in
    let up : has_host x.hosts.down m.host ≡ false = cc in
    on_both c.take_bye.result _ _ _ (λ p q. taken_up x d m needs told y e up
    (subst (λ (b : Body). IsBodyTaken x d m needs told y e b) (sym c.in-Bye.is) (record { tables = p; draft = q })))
    c.take_bye.ensures.tables c.take_bye.ensures.draft

pub returns-in_default-clause-taken : goal.returns-in_default-clause-taken
returns-in_default-clause-taken g c tells user known =
    let x = c.args.tables.now in
    let d = c.args.draft.now in
    let m = c.args.message.now in
    let y = c.take_other.new.tables in
    let e = c.take_other.new.draft in
    let state = (g.S.Store.view c.args.keeper.now.store).state in
    let needs = needs_by state m user m.body in
    let told = told_by state m.body in
    let up : has_host x.hosts.down m.host ≡ false = cc in
    on_ok_weaker c.take_other.result (λ t. taken_up x d m needs told y e up
    (other_taken x d m needs told y e m.body c.in_default.not-Down c.in_default.not-Hello c.in_default.not-Bye t))
    (c.take_other.ensures.taken tells user known)

pub returns-in-Down-clause-state : goal.returns-in-Down-clause-state
returns-in-Down-clause-state g c tells stored =
    let x = c.args.tables.now in
    let m = c.args.message.now in
    let state = (g.S.Store.view c.args.keeper.now.store).state in
    let up : has_host x.hosts.down m.host ≡ false = cc in
    on_ok_weaker c.take_down.result (λ e. e ∙ ap (body_state x m state) (sym c.in-Down.is) ∙ state_up x m state up)
    (c.take_down.ensures.state tells)

pub returns-in-Hello-clause-state : goal.returns-in-Hello-clause-state
returns-in-Hello-clause-state g c tells stored =
    let x = c.args.tables.now in
    let m = c.args.message.now in
    let state = (g.S.Store.view c.args.keeper.now.store).state in
    let up : has_host x.hosts.down m.host ≡ false = cc in
    on_ok_weaker c.take_hello.result (λ e. e ∙ ap (body_state x m state) (sym c.in-Hello.is) ∙ state_up x m state up)
    (c.take_hello.ensures.state tells)

pub returns-in-Bye-clause-state : goal.returns-in-Bye-clause-state
returns-in-Bye-clause-state g c tells stored =
    let x = c.args.tables.now in
    let m = c.args.message.now in
    let state = (g.S.Store.view c.args.keeper.now.store).state in
    let up : has_host x.hosts.down m.host ≡ false = cc in
    on_ok_weaker c.take_bye.result (λ e. e ∙ ap (body_state x m state) (sym c.in-Bye.is) ∙ state_up x m state up)
    (c.take_bye.ensures.state tells)

pub returns-in_default-clause-state : goal.returns-in_default-clause-state
returns-in_default-clause-state g c tells stored =
    let x = c.args.tables.now in
    let m = c.args.message.now in
    let state = (g.S.Store.view c.args.keeper.now.store).state in
    let up : has_host x.hosts.down m.host ≡ false = cc in
    on_ok_weaker c.take_other.result
    (λ e. e ∙ body_other x m state m.body c.in_default.not-Down c.in_default.not-Hello c.in_default.not-Bye
    ∙ state_up x m state up)
    (c.take_other.ensures.state tells stored)

pub returns-then-is_down-clause-heard : goal.returns-then-is_down-clause-heard
returns-then-is_down-clause-heard g c =
    let x = c.args.tables.now in
    let d = c.args.draft.now in
    record { needs = []; told = None; taken = taken_down x d c.args.message.now [] None x d (cc) refl refl }

pub returns-in-Down-clause-heard : goal.returns-in-Down-clause-heard
returns-in-Down-clause-heard g c =
    let x = c.args.tables.now in
    let d = c.args.draft.now in
    let m = c.args.message.now in
    let y = c.take_down.new.tables in
    let e = c.take_down.new.draft in
    let up : has_host x.hosts.down m.host ≡ false = cc in
    on_both c.take_down.result _ _ _ (λ p q. record {
      needs = [];
      told = None;
      taken = taken_up x d m [] None y e up
          (subst (λ (b : Body). IsBodyTaken x d m [] None y e b) (sym c.in-Down.is) (record { tables = p; draft = q }));
    }) c.take_down.ensures.tables c.take_down.ensures.draft

pub returns-in-Hello-clause-heard : goal.returns-in-Hello-clause-heard
returns-in-Hello-clause-heard g c =
    let x = c.args.tables.now in
    let d = c.args.draft.now in
    let m = c.args.message.now in
    let y = c.take_hello.new.tables in
    let e = c.take_hello.new.draft in
    let up : has_host x.hosts.down m.host ≡ false = cc in
    on_both c.take_hello.result _ _ _ (λ p q. record {
      needs = [];
      told = None;
      taken = taken_up x d m [] None y e up
          (subst (λ (b : Body). IsBodyTaken x d m [] None y e b) (sym c.in-Hello.is)
          (record { tables = p; draft = q }));
    }) c.take_hello.ensures.tables c.take_hello.ensures.draft

pub returns-in-Bye-clause-heard : goal.returns-in-Bye-clause-heard
returns-in-Bye-clause-heard g c =
    let x = c.args.tables.now in
    let d = c.args.draft.now in
    let m = c.args.message.now in
    let y = c.take_bye.new.tables in
    let e = c.take_bye.new.draft in
    let up : has_host x.hosts.down m.host ≡ false = cc in
    on_both c.take_bye.result _ _ _ (λ p q. record {
      needs = [];
      told = None;
      taken = taken_up x d m [] None y e up
          (subst (λ (b : Body). IsBodyTaken x d m [] None y e b) (sym c.in-Bye.is) (record { tables = p; draft = q }));
    }) c.take_bye.ensures.tables c.take_bye.ensures.draft

pub returns-in_default-clause-heard : goal.returns-in_default-clause-heard
returns-in_default-clause-heard g c =
    let x = c.args.tables.now in
    let d = c.args.draft.now in
    let m = c.args.message.now in
    let y = c.take_other.new.tables in
    let e = c.take_other.new.draft in
    let up : has_host x.hosts.down m.host ≡ false = cc in
    on_ok_weaker c.take_other.result (λ h. record {
      needs = h.needs;
      told = h.told;
      taken = taken_up x d m h.needs h.told y e up
          (other_taken x d m h.needs h.told y e m.body c.in_default.not-Down c.in_default.not-Hello
          c.in_default.not-Bye h.taken);
    }) c.take_other.ensures.heard
