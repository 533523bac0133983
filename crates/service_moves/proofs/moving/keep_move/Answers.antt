use Rattle.std.proofs.Common.{◌≡◌, ◌*◌, ◌^◌, [], length, refl, sym, ◌∙◌, ap, arith}
use Rattle.std.specs.Prelude.{Result, Ok, false}
use Rattle.std.proofs.lemmas.Bool.{false≢true}
use Rattle.tree_calls.specs.Limits.{is_between}
use Rattle.tree_filesets.specs.declared.fileset.Fileset.{Fileset}
use Rattle.tree_calls.specs.declared.reply.Refusal.{Refusal}
use Rattle.store_acts.specs.declared.act.Act.TheVariants.{Leave}
use Rattle.store_laws.proofs.Goes.{moves_go_over}
use Rattle.service_moves.specs.Batches.{batch_wear}
use Rattle.service_moves.specs.Plans.{states_at}
use Rattle.service_moves.specs.Ships.{mover_of}
use Rattle.service_moves.specs.Stores.{states_of}
use Rattle.service_moves.proofs.Moved.{in_range, move_kept, mover_sound}
use Rattle.service_moves.proofs.Doing.{steps_none}
use Rattle.service_moves.proofs.MovedSteps.{kept_does}
use Rattle.service_moves.proofs.Whole.{moves_none}
use Rattle.service_moves.proofs.Stores.{all_mendable, goes_ok, goes_same, goes_stopped, goes_stores, none_goes}
use Rattle.service_moves.proofs.moving.keep_move.Goals as goal

pub returns-in_default-clause-same : goal.returns-in_default-clause-same
returns-in_default-clause-same g c =
    goes_same g.S.Store.view {T = Unit {0}} 0 (Ok tt) c.args.stores.now c.args.stores.now
    (none_goes g.S.Store.view {T = Unit {0}} 0 tt c.args.stores.now (all_mendable g.S.Store.view c.args.tree.now.roster (2 ^ 46) c.args.stores.now c.requires.stores))

pub returns-in_default-clause-stores : goal.returns-in_default-clause-stores
returns-in_default-clause-stores g c worn are =
    goes_stores g.S.Store.view {T = Unit {0}} tt 2048 worn c.args.tree.now.roster c.args.stores.now c.args.stores.now
    (none_goes g.S.Store.view {T = Unit {0}} 2048 tt c.args.stores.now (all_mendable g.S.Store.view c.args.tree.now.roster (2 ^ 46) c.args.stores.now c.requires.stores)) are

pub returns-then-not-is_server-clause-kept : goal.returns-then-not-is_server-clause-kept
returns-then-not-is_server-clause-kept g c tells next fileset formed keep moves number =
    let tree = c.args.tree.now in
    let request = c.args.request.now in
    let led : ◌≡◌ {A = Result Fileset Refusal} (Ok c.in-Ok.fileset.now) (Ok fileset) = sym c.in-Ok.ensures ∙ moves.led in
    let same : c.in-Ok.fileset.now ≡ fileset = cc in
    let go = moves_go_over next tree (states_of g.S.Store.view c.args.stores.now) request.host request.server request.name request.to fileset (mover_of request) formed keep moves
    (mover_sound tree.roster request c.requires.host c.requires.call) refl (sym number) in
    let inside = in_range next tree (states_of g.S.Store.view c.args.stores.now) request.host request.server request.name request.to fileset (mover_of request) keep go in
    let not : is_between 1 (length tree.roster.capacity) c.in-Ok.fileset.now.server.0 ≡ false = sym c.is_server.ensures ∙ c.if-not-is_server.true in
    absurd (false≢true (sym not ∙ ap (λ (f : Fileset). is_between 1 (length tree.roster.capacity) f.server.0) same ∙ inside))

pub returns-then-not-is_server-clause-same : goal.returns-then-not-is_server-clause-same
returns-then-not-is_server-clause-same g c =
    goes_same g.S.Store.view {T = Unit {0}} 0 (Ok tt) c.args.stores.now c.args.stores.now
    (none_goes g.S.Store.view {T = Unit {0}} 0 tt c.args.stores.now (all_mendable g.S.Store.view c.args.tree.now.roster (2 ^ 46) c.args.stores.now c.requires.stores))

pub returns-then-not-is_server-clause-stores : goal.returns-then-not-is_server-clause-stores
returns-then-not-is_server-clause-stores g c worn are =
    goes_stores g.S.Store.view {T = Unit {0}} tt 2048 worn c.args.tree.now.roster c.args.stores.now c.args.stores.now
    (none_goes g.S.Store.view {T = Unit {0}} 2048 tt c.args.stores.now (all_mendable g.S.Store.view c.args.tree.now.roster (2 ^ 46) c.args.stores.now c.requires.stores)) are

pub returns-in_err-mover-clause-same : goal.returns-in_err-mover-clause-same
returns-in_err-mover-clause-same g c =
    goes_same g.S.Store.view {T = Unit {0}} 0 (Ok tt) c.args.stores.now c.args.stores.now
    (none_goes g.S.Store.view {T = Unit {0}} 0 tt c.args.stores.now (all_mendable g.S.Store.view c.args.tree.now.roster (2 ^ 46) c.args.stores.now c.requires.stores))

pub returns-clause-kept : goal.returns-clause-kept
returns-clause-kept g c tells next fileset formed keep moves number =
    let tree = c.args.tree.now in
    let request = c.args.request.now in
    let led : ◌≡◌ {A = Result Fileset Refusal} (Ok c.in-Ok.fileset.now) (Ok fileset) = sym c.in-Ok.ensures ∙ moves.led in
    let same : c.in-Ok.fileset.now ≡ fileset = cc in
    move_kept g.S.Store.view tree c.args.stores.now c.move_over-moved.new.stores c.move_over-moved.result next request c.in-Ok.fileset.now fileset c.in_ok-mover.mover same c.in_ok-mover.ensures formed keep moves number
    (mover_sound tree.roster request c.requires.host c.requires.call) (c.move_over-moved.ensures.states tells)

pub returns-clause-same : goal.returns-clause-same
returns-clause-same g c = goes_same g.S.Store.view (68 * batch_wear) c.move_over-moved.result c.args.stores.now c.move_over-moved.new.stores c.move_over-moved.ensures.goes_on

pub returns-clause-stores : goal.returns-clause-stores
returns-clause-stores g c worn are =
    goes_ok g.S.Store.view c.move_over-moved.result (68 * batch_wear) 2048 worn c.args.tree.now.roster c.args.stores.now c.move_over-moved.new.stores (omega arith) c.move_over-moved.ensures.goes_on are

pub returns-clause-stopped : goal.returns-clause-stopped
returns-clause-stopped g c = goes_stopped g.S.Store.view g.S.Store.tells (68 * batch_wear) c.move_over-moved.result c.args.stores.now c.move_over-moved.new.stores c.move_over-moved.ensures.goes_on

pub returns-then-not-is_server-clause-does : goal.returns-then-not-is_server-clause-does
returns-then-not-is_server-clause-does g c tells next fileset formed keep moves number =
    let tree = c.args.tree.now in
    let request = c.args.request.now in
    let led : ◌≡◌ {A = Result Fileset Refusal} (Ok c.in-Ok.fileset.now) (Ok fileset) = sym c.in-Ok.ensures ∙ moves.led in
    let same : c.in-Ok.fileset.now ≡ fileset = cc in
    let go = moves_go_over next tree (states_of g.S.Store.view c.args.stores.now) request.host request.server request.name request.to fileset (mover_of request) formed keep moves
    (mover_sound tree.roster request c.requires.host c.requires.call) refl (sym number) in
    let inside = in_range next tree (states_of g.S.Store.view c.args.stores.now) request.host request.server request.name request.to fileset (mover_of request) keep go in
    let not : is_between 1 (length tree.roster.capacity) c.in-Ok.fileset.now.server.0 ≡ false = sym c.is_server.ensures ∙ c.if-not-is_server.true in
    absurd (false≢true (sym not ∙ ap (λ (f : Fileset). is_between 1 (length tree.roster.capacity) f.server.0) same ∙ inside))

pub returns-in_default-clause-does : goal.returns-in_default-clause-does
returns-in_default-clause-does g c tells next fileset formed keep moves number = ([], moves_none (λ act. act ≡ Leave fileset.id c.args.request.now.to) (states_at g.S.Store.view c.args.stores.now), steps_none g.S.Store.view _ c.args.stores.now)

pub returns-in_err-mover-clause-does : goal.returns-in_err-mover-clause-does
returns-in_err-mover-clause-does g c tells next fileset formed keep moves number = ([], moves_none (λ act. act ≡ Leave fileset.id c.args.request.now.to) (states_at g.S.Store.view c.args.stores.now), steps_none g.S.Store.view _ c.args.stores.now)

pub returns-clause-does : goal.returns-clause-does
returns-clause-does g c tells next fileset formed keep moves number =
    let tree = c.args.tree.now in
    let request = c.args.request.now in
    let led : ◌≡◌ {A = Result Fileset Refusal} (Ok c.in-Ok.fileset.now) (Ok fileset) = sym c.in-Ok.ensures ∙ moves.led in
    let same : c.in-Ok.fileset.now ≡ fileset = cc in
    kept_does g.S.Store.view tree c.args.stores.now c.move_over-moved.new.stores c.move_over-moved.result next request c.in-Ok.fileset.now fileset c.in_ok-mover.mover same c.in_ok-mover.ensures formed keep moves number
    (mover_sound tree.roster request c.requires.host c.requires.call) (c.move_over-moved.ensures.does tells)
