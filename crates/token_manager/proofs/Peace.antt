-- That no call makes granted tokens of two hosts conflict.
use Rattle.std.proofs.Common.{◌≡◌, ℕ, Bool, true, false, ◌==◌, ◌||◌, ◌&&◌, not, List, [], ◌∷◌, ◌++◌, Option, Some}
use Rattle.std.proofs.Common.{None, is_some}
use Rattle.std.proofs.Common.{is_none, refl, inl, inr, sym, ap, ◌∙◌, subst, arith, append-nil, get_or}
use Rattle.std.specs.Prelude.{All, AllPairs}
use Rattle.std.specs.List.{filter, list_any}
use Rattle.std.proofs.lemmas.Bool.{cases_Bool, or_parts, and_parts}
use Rattle.std.proofs.lemmas.List.Elements.{All-nil, All-cons, All-head, All-tail, All-weaker}
use Rattle.std.proofs.lemmas.List.Kept.{AllPairs-filter, AllPairs-cons}
use Rattle.base_types.specs.declared.ids.HostId.{HostId}
use Rattle.token_types.specs.declared.token.Token.{Token}
use Rattle.token_types.specs.declared.token.TokenId.{TokenId}
use Rattle.token_types.specs.Conflicts.{conflict, same_id}
use Rattle.token_types.proofs.Symmetric.{conflict_both}
use Rattle.token_table.specs.Places.{placed}
use Rattle.token_table.specs.Tables.{has_id}
use Rattle.token_table.proofs.Sound.{all_placed, pairs_placed}
use Rattle.token_manager.specs.declared.grants.Grants.{Grants}
use Rattle.token_manager.specs.declared.want.Want.{Want}
use Rattle.token_manager.specs.Grants.{is_blocked, pinned_in_the_way, with_claimed, with_claims, holds, can_keep}
use Rattle.token_manager.specs.Laws.{AreAtPeace, IsAtPeace}
use Rattle.token_manager.specs.Managers.{Manager, has_to_wait, after_ask, after_ready, after_returned, after_kept}
use Rattle.token_manager.specs.Managers.{grants_asked, grants_ready, queue_asked, queue_ready, grants_after}
use Rattle.token_manager.specs.Managers.{after_decision, can_decide}
use Rattle.token_manager.specs.Managers.{first_ready, grants_returned, grants_kept, grants_forgotten, is_later}
use Rattle.token_manager.specs.Wants.{first_ahead}
use Rattle.token_manager.specs.PeaceLaws.{PeaceThroughAsk, PeaceThroughReady, PeaceThroughAdmit, PeaceThroughLoss}
use Rattle.token_manager.proofs.Granting.{peaceful_grant}
use Rattle.token_manager.proofs.Pairs.{pairs_head, pairs_tail, pairs_append}
use Rattle.token_manager.proofs.Rooms.{found_passes}
use Rattle.token_manager.proofs.Sound.{not_blocked}

pub peace_through_ask : PeaceThroughAsk
unfolding grants_asked queue_asked
peace_through_ask manager want h = elim (cases_Bool (has_to_wait manager want)) [
  | inl waits ↦ rw waits h
  | inr free ↦
      let table = manager.grants.table in
      rw free (peaceful_grant table.tokens table.server table.epoch table.last want.host want.needs
      (or_parts (is_blocked manager.grants want) (is_some (first_ahead manager.queue want)) free).0 h)
]

decided : (manager : Manager) (want : Want) (pinned : Option Token) → first_ready manager ≡ Some want →
    pinned_in_the_way manager.grants want ≡ pinned → IsAtPeace manager →
    AreAtPeace (after_decision manager.grants want pinned).table.tokens
decided manager want (Some token) found e h = h
decided manager want None found e h =
    let table = manager.grants.table in
    let parts = and_parts (is_none (first_ahead manager.queue want)) (not (is_blocked manager.grants want) || is_some
    (pinned_in_the_way manager.grants want))
    (found_passes (can_decide manager.grants manager.queue) manager.queue want found) in
    peaceful_grant table.tokens table.server table.epoch table.last want.host want.needs
    (not_blocked (is_blocked manager.grants want) (pinned_in_the_way manager.grants want) e parts.1) h

ready_or_not : (manager : Manager) (ready : Option Want) → first_ready manager ≡ ready → IsAtPeace manager →
    AreAtPeace (grants_after manager.grants ready).table.tokens
ready_or_not manager None e h = h
ready_or_not manager (Some want) e h = decided manager want (pinned_in_the_way manager.grants want) e refl h

pub peace_through_ready : PeaceThroughReady
unfolding grants_ready queue_ready
peace_through_ready manager h = ready_or_not manager (first_ready manager) refl h

-- the parts of two lists whose elements stand in a relation, each to each later one
module _ {X : Type 0} where
  all_left : (P : X → Type 0) (xs ys : List X) → All P (xs ++ ys) → All P xs
  all_left P [] ys h = All-nil P
  all_left P (x ∷ xs) ys h = All-cons P x xs (All-head P x (xs ++ ys) h) (all_left P xs ys (All-tail P x (xs ++ ys) h))

  all_right : (P : X → Type 0) (xs ys : List X) → All P (xs ++ ys) → All P ys
  all_right P [] ys h = h
  all_right P (x ∷ xs) ys h = all_right P xs ys (All-tail P x (xs ++ ys) h)

  pairs_left : (R : X → X → Type 0) (xs ys : List X) → AllPairs R (xs ++ ys) → AllPairs R xs
  pairs_left R [] ys h = λ i j d before within. absurd (omega arith)
  pairs_left R (x ∷ xs) ys h = AllPairs-cons R x xs (all_left (R x) xs ys (pairs_head R x (xs ++ ys) h))
      (pairs_left R xs ys (pairs_tail R x (xs ++ ys) h))

  pairs_right : (R : X → X → Type 0) (xs ys : List X) → AllPairs R (xs ++ ys) → AllPairs R ys
  pairs_right R [] ys h = h
  pairs_right R (x ∷ xs) ys h = pairs_right R xs ys (pairs_tail R x (xs ++ ys) h)

  pairs_across : (R : X → X → Type 0) (xs ys : List X) → AllPairs R (xs ++ ys) → All (λ y. All (λ x. R x y) xs) ys
  pairs_across R [] ys h k d within = All-nil (λ x. R x (get_or ys k d))
  pairs_across R (x ∷ xs) ys h k d within =
      All-cons (λ z. R z (get_or ys k d)) x xs (all_right (R x) xs ys (pairs_head R x (xs ++ ys) h) k d within)
      (pairs_across R xs ys (pairs_tail R x (xs ++ ys) h) k d within)

abbrev Apart : Token → Token → Type 0
Apart a b = conflict a b ≡ false

-- one of the further tokens goes to its place
peace_placed : (grants : Grants) (token : Token) (tokens : List Token) →
    AreAtPeace (grants.table.tokens ++ token ∷ tokens) →
    AreAtPeace (placed grants.table.server grants.table.epoch token grants.table.tokens ++ tokens)
peace_placed grants token tokens h =
    let server = grants.table.server in
    let epoch = grants.table.epoch in
    let old = grants.table.tokens in
    let across = pairs_across Apart old (token ∷ tokens) h in
    let right = pairs_right Apart old (token ∷ tokens) h in
    let to = All-head (λ y. All (λ x. Apart x y) old) token tokens across in
    let from = All-weaker (λ x. Apart x token) (Apart token) (λ x e. conflict_both token x ∙ e) old to in
    pairs_append Apart (placed server epoch token old) tokens
    (pairs_placed server epoch token Apart old to from (pairs_left Apart old (token ∷ tokens) h))
    (pairs_tail Apart token tokens right)
    (λ k d within. all_placed server epoch token (λ x. Apart x (get_or tokens k d)) old
    (pairs_head Apart token tokens right k d within)
    (All-tail (λ y. All (λ x. Apart x y) old) token tokens across k d within))

-- one of the further tokens is left out
peace_without : (old : List Token) (token : Token) (tokens : List Token) → AreAtPeace (old ++ token ∷ tokens) →
    AreAtPeace (old ++ tokens)
peace_without old token tokens h = pairs_append Apart old tokens (pairs_left Apart old (token ∷ tokens) h)
    (pairs_tail Apart token tokens (pairs_right Apart old (token ∷ tokens) h))
    (All-tail (λ y. All (λ x. Apart x y) old) token tokens (pairs_across Apart old (token ∷ tokens) h))

claims : (grants : Grants) (tokens : List Token) → AreAtPeace (grants.table.tokens ++ tokens) →
    AreAtPeace (with_claims grants tokens).table.tokens
claims grants [] h = subst AreAtPeace (append-nil grants.table.tokens) h
claims grants (token ∷ tokens) h =
    claims (with_claimed grants token) tokens (next (has_id grants.table.tokens token.id) refl)
  where
    next : (b : Bool) → has_id grants.table.tokens token.id ≡ b →
        AreAtPeace ((with_claimed grants token).table.tokens ++ tokens)
    next true e = rw e (peace_without grants.table.tokens token tokens h)
    next false e = rw e (peace_placed grants token tokens h)

pub peace_through_admit : PeaceThroughAdmit
peace_through_admit manager tokens h = claims manager.grants tokens h

pub peace_through_loss : PeaceThroughLoss
unfolding grants_returned grants_kept grants_forgotten
peace_through_loss manager h = record {
  returned = λ host id. elim (cases_Bool (holds manager.grants host id)) [
    | inl there ↦ rw there (AllPairs-filter Apart (λ token. not (same_id token.id id)) manager.grants.table.tokens h)
    | inr absent ↦ rw absent h
  ];
  kept = λ host id. elim (cases_Bool (can_keep manager.grants host id)) [
    | inl there ↦ rw there h
    | inr absent ↦ rw absent h
  ];
  revoked = λ id. h;
  down = λ host. AllPairs-filter Apart (λ token. not (token.host.0 == host.0)) manager.grants.table.tokens h;
  forget = λ epoch. elim (cases_Bool (is_later manager epoch)) [
    | inl later ↦ rw later (λ i j d before within. absurd (omega arith))
    | inr not_later ↦ rw not_later h
  ];
}
