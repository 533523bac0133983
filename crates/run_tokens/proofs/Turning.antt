-- Wants are served in the order in which they were made.
use Rattle.std.proofs.Common.{List, [], inl, inr, refl, sym, ◌∙◌, ◌∷◌, ◌≡◌}
use Rattle.tree_calls.specs.declared.reply.Refusal.{Refusal}
use Rattle.tree_calls.specs.declared.reply.Reply.{Reply}
use Rattle.base_types.specs.declared.ids.HostId.{HostId}
use Rattle.base_types.specs.declared.ids.ServerId.{ServerId}
use Rattle.tree_answers.specs.declared.tree.Tree.{Tree}
use Rattle.message_types.specs.declared.asking.Change.{Change as ChangeOf}
use Rattle.run_rules.specs.Doings.{Doing}
use Rattle.run_rules.specs.Doings.Doing.{MakesWant}
use Rattle.run_rules.specs.ServerDecides.{DecidedSo, RefusedOn}
use Rattle.run_rules.specs.ServerDecides.DecidedSo.{IsRefusedByTable, MeetsPinned, TakesEffect}
use Rattle.run_rules.specs.Wants.{CanDecide, Decides, IsBehind, IsQueued, IsQueuedBefore}
use Rattle.run_rules.specs.declared.applied.Request.TheVariants.{Change as Changes, Fetch as Asks}
use Rattle.run_tokens.specs.Turns.{ServedInTurn}
use Rattle.run_rules.specs.declared.applied.Request.{Request}
use Rattle.run_rules.specs.declared.applied.Wanted.{Wanted}

want_is : (v w : Wanted) → MakesWant v ≡ MakesWant w → v ≡ w
want_is v w e = cc

no_want : (a : Doing) (w : Wanted) (h : HostId) (r : Request) → Decides a h r → a ≡ MakesWant w → ⊥
no_want a w h (Asks f) (e, n, g, is, _, _) at = let p = sym is ∙ at in cc
no_want a w h (Changes c) (inl (written, is, _, _, _)) at = let p = sym is ∙ at in cc
no_want a w h (Changes c) (inr (e, n, d, is, _, _)) at = let p = sym is ∙ at in cc

never : (server : ServerId) (past : List Doing) (w : Wanted) → IsBehind past w → CanDecide server past w → ⊥
never server past w b (inl can) = can.first b
never server past w b (inr can) = can.first b

decided_so : (server : ServerId) (tree : Tree) (past : List Doing) (w : Wanted) (c : ChangeOf) (reply : Reply)
    → DecidedSo server tree past w c reply → IsBehind past w → (refusal : Refusal) × RefusedOn tree w.host c refusal
decided_so server tree past w c reply (IsRefusedByTable refusal is _) b = (refusal, is)
decided_so server tree past w c reply (MeetsPinned _ _ can _) b = absurd (can.first b)
decided_so server tree past w c reply (TakesEffect _ _ can _) b = absurd (can.first b)

pub in_turn : ServedInTurn
in_turn = record {
  behind = λ past w v waits stays conflict. (w, (inl (waits, refl), inr (waits, stays), inl refl), conflict);
  ahead = λ past w v other none b. elim b.0 [ inl x ↦ other (want_is v w x.1) | inr x ↦ none x ];
  alone = λ past w none b. none b.0 b.1;
  until = λ past a w v b first second. (
    inr b,
    inr (both_first past w v b, first),
    inr (both_second past w v b, second),
  );
  decided = λ past a w v d b. elim b.1 [
    | inl is ↦ no_want a w w.host w.request d is
    | inr x ↦ x.1 (inl d)
  ];
  waits = never;
  granted = λ server tree past h n g k b. k.free.first b;
  written = decided_so;
}
  where
    both_first : (past : List Doing) (w v : Wanted) → IsQueuedBefore past w v → IsQueued past w
    both_first [] w v b = elim b [ ]
    both_first (a ∷ past) w v b = b.1

    both_second : (past : List Doing) (w v : Wanted) → IsQueuedBefore past w v → IsQueued past v
    both_second [] w v b = elim b [ ]
    both_second (a ∷ past) w v b = b.2
