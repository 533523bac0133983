use Rattle.std.proofs.Common.{◌≡◌, [], ◌∷◌, subst, sym}
use Rattle.std.specs.Prelude.{IfOk}
use Rattle.tree_calls.specs.declared.call.Call.{Call}
use Rattle.token_types.specs.declared.token.Kind.{Kind}
use Rattle.server_keeps.specs.Wanting.{wanted_of}
use Rattle.store_memory.specs.Reading.{looked_up}
use Rattle.server_keeps.specs.Asking.{needs_told}
use Rattle.server_looks.proofs.needing.needs_of.Goals as goal

pub returns-in-Rename-clause-needs : goal.returns-in-Rename-clause-needs
returns-in-Rename-clause-needs g c tells =
    let state = (g.S.Store.view c.args.keeper.now.store).state in
    subst (λ (call : Call). IfOk c.renamed_needs.result (λ needs. needs ≡ needs_told state c.args.user.now call))
    (sym c.in-Rename.is) (c.renamed_needs.ensures.needs tells)

pub returns-in-Truncate-clause-needs : goal.returns-in-Truncate-clause-needs
returns-in-Truncate-clause-needs g c tells =
    let state = (g.S.Store.view c.args.keeper.now.store).state in
    subst (λ (call : Call). IfOk c.object_needs.result (λ needs. needs ≡ needs_told state c.args.user.now call))
    (sym c.in-Truncate.is) (c.object_needs.ensures.needs tells)

pub returns-in-SetAcl-clause-needs : goal.returns-in-SetAcl-clause-needs
returns-in-SetAcl-clause-needs g c tells =
    let state = (g.S.Store.view c.args.keeper.now.store).state in
    subst (λ (call : Call). IfOk c.kind_needs.result (λ needs. needs ≡ needs_told state c.args.user.now call))
    (sym c.in-SetAcl.is) (c.kind_needs.ensures.needs tells)

pub returns-in-CloneFileset-clause-needs : goal.returns-in-CloneFileset-clause-needs
returns-in-CloneFileset-clause-needs g c tells =
    let state = (g.S.Store.view c.args.keeper.now.store).state in
    subst (λ (call : Call). IfOk c.clone_needs.result (λ needs. needs ≡ needs_told state c.args.user.now call))
    (sym c.in-CloneFileset.is) (c.clone_needs.ensures.needs tells)

pub returns-in-MoveFileset-clause-needs : goal.returns-in-MoveFileset-clause-needs
returns-in-MoveFileset-clause-needs g c tells =
    let state = (g.S.Store.view c.args.keeper.now.store).state in
    subst (λ (call : Call). IfOk c.move_needs.result (λ needs. needs ≡ needs_told state c.args.user.now call))
    (sym c.in-MoveFileset.is) (c.move_needs.ensures.needs tells)

pub returns-in-Create-clause-needs : goal.returns-in-Create-clause-needs
returns-in-Create-clause-needs g c tells =
    let state = (g.S.Store.view c.args.keeper.now.store).state in
    subst (λ (call : Call). IfOk c.parent_needs.result (λ needs. needs ≡ needs_told state c.args.user.now call))
    (sym c.in-Create.is) (c.parent_needs.ensures.needs tells)

pub returns-in-MakeDir-clause-needs : goal.returns-in-MakeDir-clause-needs
returns-in-MakeDir-clause-needs g c tells =
    let state = (g.S.Store.view c.args.keeper.now.store).state in
    subst (λ (call : Call). IfOk c.parent_needs-in-MakeDir.result
    (λ needs. needs ≡ needs_told state c.args.user.now call)) (sym c.in-MakeDir.is)
    (c.parent_needs-in-MakeDir.ensures.needs tells)

pub returns-in-OpenFile-clause-needs : goal.returns-in-OpenFile-clause-needs
returns-in-OpenFile-clause-needs g c tells =
    let state = (g.S.Store.view c.args.keeper.now.store).state in
    subst (λ (call : Call). IfOk c.kind_needs-in-OpenFile.result
    (λ needs. needs ≡ needs_told state c.args.user.now call)) (sym c.in-OpenFile.is)
    (c.kind_needs-in-OpenFile.ensures.needs tells)

pub returns-in-Lock-clause-needs : goal.returns-in-Lock-clause-needs
returns-in-Lock-clause-needs g c tells =
    let state = (g.S.Store.view c.args.keeper.now.store).state in
    subst (λ (call : Call). IfOk c.kind_needs-in-Lock.result (λ needs. needs ≡ needs_told state c.args.user.now call))
    (sym c.in-Lock.is)
    (subst (λ (kind : Kind). IfOk c.kind_needs-in-Lock.result (λ needs. needs
    ≡ wanted_of (looked_up state c.args.user.now c.in-Lock.place) (λ fid. record { fid = fid; kind = kind } ∷ [])))
    c.locked.ensures (c.kind_needs-in-Lock.ensures.needs tells))
