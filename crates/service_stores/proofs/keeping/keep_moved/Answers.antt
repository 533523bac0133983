use Rattle.std.proofs.Common.{◌≡◌, ◌+◌, ◌^◌, ◌∙◌, ℕ, List, [], ◌∷◌, OnOk, sym, subst, arith}
use Rattle.base_types.specs.declared.ids.HostId.{HostId}
use Rattle.base_types.specs.declared.ids.ServerId.{ServerId}
use Rattle.tree_calls.specs.declared.call.Call.TheVariants.{MoveFileset}
use Rattle.tree_calls.specs.declared.entry.Entry.TheVariants.{Call as Called}
use Rattle.tree_calls.specs.declared.reply.Reply.TheVariants.{Ok as Accepted}
use Rattle.store_acts.specs.declared.act.Act.TheVariants.{Leave}
use Rattle.store_laws.specs.Shape.{next_number}
use Rattle.store_laws.specs.MoveKeeping.{KeepAll}
use Rattle.store_laws.specs.MovedLaws.{numbers_after}
use Rattle.service_moves.specs.Doing.{Step, DoSteps}
use Rattle.service_moves.specs.Plans.{states_at, AreMoves}
use Rattle.service_moves.specs.Stores.{states_of}
use Rattle.service_moves.proofs.Doing.{steps_none}
use Rattle.service_moves.proofs.Whole.{moves_none}
use Rattle.store_laws.specs.KeptMoves.{Moves, after_move}
use Rattle.service_stores.proofs.Histories.{along, same_call, same_move}
use Rattle.service_stores.proofs.KeepStores.{same_stores, stores_more}
use Rattle.service_stores.proofs.keeping.keep_moved.Goals as goal

pub returns-in_default : goal.returns-in_default
returns-in_default g c = record {
  kept = λ told next host k server name to fileset e formed keep moves number.
      absurd (c.in_default.not-Call host k (MoveFileset server name to) Accepted e);
  does = λ told next host k server name to fileset e formed keep moves number.
      absurd (c.in_default.not-Call host k (MoveFileset server name to) Accepted e);
  same = same_stores g.S.Store.view c.args.tree.now.roster (2 ^ 46) 1 c.args.stores.now c.requires.stores;
  stores = λ worn h. stores_more g.S.Store.view c.args.tree.now.roster worn (worn + 2048) 1 c.args.stores.now (omega arith) h;
  stopped = tt;
}

pub returns-in_default-call : goal.returns-in_default-call
returns-in_default-call g c = record {
  kept = λ told next host k server name to fileset e formed keep moves number.
      (let parts = same_move c.in-Call.host host c.in-Call.k k c.in-Call.call c.in-Call.reply server name to (sym c.in-Call.is ∙ e) in
      absurd (c.in_default-call.not-MoveFileset server name to parts.2));
  does = λ told next host k server name to fileset e formed keep moves number.
      (let parts = same_move c.in-Call.host host c.in-Call.k k c.in-Call.call c.in-Call.reply server name to (sym c.in-Call.is ∙ e) in
      absurd (c.in_default-call.not-MoveFileset server name to parts.2));
  same = same_stores g.S.Store.view c.args.tree.now.roster (2 ^ 46) 1 c.args.stores.now c.requires.stores;
  stores = λ worn h. stores_more g.S.Store.view c.args.tree.now.roster worn (worn + 2048) 1 c.args.stores.now (omega arith) h;
  stopped = tt;
}

pub returns-in_err-copy-clause-same : goal.returns-in_err-copy-clause-same
returns-in_err-copy-clause-same g c =
    same_stores g.S.Store.view c.args.tree.now.roster (2 ^ 46) 1 c.args.stores.now c.requires.stores

pub returns-clause-kept : goal.returns-clause-kept
returns-clause-kept g c told next host k server name to fileset e formed keep moves number =
    let tree = c.args.tree.now in
    let states = states_of g.S.Store.view c.keep_move.new.stores in
    let parts = same_move c.in-Call.host host c.in-Call.k k c.in-Call.call c.in-Call.reply server name to (sym c.in-Call.is ∙ e) in
    let names = same_call c.in-MoveFileset.server server c.in-MoveFileset.fileset name c.in-MoveFileset.to to
    (sym c.in-MoveFileset.is ∙ parts.2) in
    let P : HostId → ℕ → ServerId → List ℕ → ServerId → Type 0 =
    λ h n s m t. Moves tree h s m t fileset → next h ≡ n → OnOk c.keep_move.result (KeepAll
    (λ any. next_number any (next any) (Called h n (MoveFileset s m t) Accepted)) (after_move tree h s m t fileset) states) in
    let all = along P c.in-Call.host host c.in-Call.k k c.in-MoveFileset.server server c.in_ok-copy.field-0 name
    c.in-MoveFileset.to to parts.0 parts.1 names.0 (c.in_ok-copy.ensures ∙ names.1) names.2
    (c.keep_move.ensures.kept told next fileset formed keep) in
    subst (λ entry. OnOk c.keep_move.result (KeepAll (numbers_after next (entry ∷ []))
    (after_move tree host server name to fileset) states)) (sym e) (all moves (sym number))

pub returns-in_err-copy-clause-does : goal.returns-in_err-copy-clause-does
returns-in_err-copy-clause-does g c told next host k server name to fileset e formed keep moves number = ([], moves_none (λ act. act ≡ Leave fileset.id to) (states_at g.S.Store.view c.args.stores.now), steps_none g.S.Store.view _ c.args.stores.now)

pub returns-clause-does : goal.returns-clause-does
returns-clause-does g c told next host k server name to fileset e formed keep moves number =
    let tree = c.args.tree.now in
    let parts = same_move c.in-Call.host host c.in-Call.k k c.in-Call.call c.in-Call.reply server name to (sym c.in-Call.is ∙ e) in
    let names = same_call c.in-MoveFileset.server server c.in-MoveFileset.fileset name c.in-MoveFileset.to to
    (sym c.in-MoveFileset.is ∙ parts.2) in
    let P : HostId → ℕ → ServerId → List ℕ → ServerId → Type 0 =
    λ h n s m t. Moves tree h s m t fileset → next h ≡ n → (steps : List Step) × AreMoves (λ act. act ≡ Leave fileset.id t) (states_at g.S.Store.view c.args.stores.now) steps × DoSteps g.S.Store.view c.keep_move.result steps c.args.stores.now c.keep_move.new.stores in
    along P c.in-Call.host host c.in-Call.k k c.in-MoveFileset.server server c.in_ok-copy.field-0 name
    c.in-MoveFileset.to to parts.0 parts.1 names.0 (c.in_ok-copy.ensures ∙ names.1) names.2
    (c.keep_move.ensures.does told next fileset formed keep) moves (sym number)
