-- What a grant leaves ready.
use Rattle.std.proofs.Common.{◌≡◌, ◌<◌, ◌+◌, ℕ, Bool, true, false, ◌==◌, ◌&&◌, ◌||◌, not, nat_lt, cond, List, [], ◌∷◌}
use Rattle.std.proofs.Common.{◌++◌}
use Rattle.std.proofs.Common.{Option, Some, None, is_some, is_none, IfSome, refl, inl, inr, ap, sym, ◌∙◌, subst, get_or}
use Rattle.std.proofs.Common.{arith}
use Rattle.std.specs.Prelude.{All, AllPairs}
use Rattle.std.specs.Option.{option_map_or}
use Rattle.std.specs.List.{list_any, find, filter}
use Rattle.std.proofs.lemmas.Bool.{cases_Bool, false≢true, true≢false, and_parts, and_from, or_parts, or_cases}
use Rattle.std.proofs.lemmas.Bool.{not-true}
use Rattle.std.proofs.lemmas.Bool.{lt-ltb, eq-eqb, eqb-true, not_from_true, and_right, not_from_false}
use Rattle.std.proofs.lemmas.List.Elements.{All-head, All-tail, All-nil, All-cons, All-weaker}
use Rattle.std.proofs.lemmas.List.Folds.{list_any-append, list_any_none}
use Rattle.base_types.specs.declared.ids.HostId.{HostId}
use Rattle.base_types.specs.declared.ids.ServerId.{ServerId}
use Rattle.token_types.specs.Conflicts.{blocks, any_conflict, wants_conflict}
use Rattle.token_types.specs.declared.token.Need.{Need}
use Rattle.token_types.specs.declared.token.Token.{Token}
use Rattle.token_types.specs.declared.token.TokenId.{TokenId}
use Rattle.token_types.proofs.Wants.{wants_both}
use Rattle.token_table.specs.Tables.{has_id, next_tokens, token_for, tokens_from, near}
use Rattle.token_table.proofs.Nearby.{near_blocks}
use Rattle.token_table.specs.declared.notes.Note.{Note}
use Rattle.token_table.specs.Marks.{is_pinned, note_at}
use Rattle.token_table.proofs.Reading.{with_each_at}
use Rattle.token_manager.specs.declared.grants.Grants.{Grants}
use Rattle.token_manager.specs.declared.want.Want.{Want}
use Rattle.token_manager.specs.Grants.{is_blocked, is_pinned_ahead, pinned_in_the_way, with_grant, note_of, blocks_any}
use Rattle.token_manager.specs.Laws.{KeepsLaws, was_asked}
use Rattle.token_manager.specs.Managers.{Manager, has_to_wait, can_decide, first_ready, after_ready, grants_ready}
use Rattle.token_manager.specs.Managers.{queue_ready}
use Rattle.token_manager.specs.Managers.{grants_after, queue_after, after_decision}
use Rattle.token_manager.specs.ReadyLaws.{AskMakesNoneReady, AskMakesNoneWanted, GrantMakesNoneReady, IsNext, can_grant}
use Rattle.token_manager.specs.Wants.{is_ahead, first_ahead, without_want}
use Rattle.token_manager.proofs.Granting.{each_token, not_passed, none_found}
use Rattle.token_manager.proofs.Lawful.{below_later}
use Rattle.token_manager.proofs.Noting.{among_themselves}
use Rattle.token_manager.proofs.Pairs.{pairs_head, pairs_tail}
use Rattle.token_manager.proofs.Revoking.{any_found}
use Rattle.token_manager.proofs.Rooms.{all_found}

-- what passes one test passes another
any_more : {X : Type 0} (p q : X → Bool) → ((x : X) → p x ≡ true → q x ≡ true) → (xs : List X) →
    list_any p xs ≡ true → list_any q xs ≡ true
any_more p q more [] found = found
any_more p q more (x ∷ xs) found = elim (or_cases (p x) (list_any p xs) found) [
  | inl here ↦ rw (more x here) refl
  | inr there ↦ rw (any_more p q more xs there) (or_true (q x))
]
  where
    or_true : (b : Bool) → (b || true) ≡ true
    or_true true = refl
    or_true false = refl

-- whether a pinned token is in the way
pinned_any : (grants : Grants) (want : Want) →
    is_some (pinned_in_the_way grants want)
    ≡ list_any (is_pinned_ahead grants.notes want) grants.table.tokens
pinned_any grants want =
    any_found (is_pinned_ahead grants.notes want) (near grants.table.tokens [] want.needs)
    ∙ near_blocks want.host want.needs (λ token. is_pinned grants.notes token.id) grants.table.tokens

module _ (grants : Grants) (want : Want) where
  new : List Token
  new = next_tokens grants.table want.host want.needs

  -- a grant pins nothing
  pinned_after : (id : TokenId) →
      is_pinned (with_grant grants want).notes id
      ≡ (not (has_id (next_tokens grants.table want.host want.needs) id) && is_pinned grants.notes id)
  pinned_after id =
      ap (λ o. option_map_or (λ (note : Note). note.pinned) o false)
      (with_each_at grants.notes (next_tokens grants.table want.host want.needs)
      (note_of want.host (Some want.number)) id)
      ∙ go (has_id (next_tokens grants.table want.host want.needs) id) (note_at grants.notes id)
    where
      go : (b : Bool) (o : Option Note) →
          option_map_or (λ (note : Note). note.pinned) (cond b (Some (note_of want.host (Some want.number))) o) false
          ≡ (not b && option_map_or (λ (note : Note). note.pinned) o false)
      go true o = refl
      go false o = refl

  ahead_before : (other : Want) (token : Token) → is_pinned_ahead (with_grant grants want).notes other token ≡ true →
      is_pinned_ahead grants.notes other token ≡ true
  ahead_before other token h =
      let parts = and_parts (blocks other.host other.needs token)
      (is_pinned (with_grant grants want).notes token.id) h in
      let was = and_parts (not (has_id (next_tokens grants.table want.host want.needs) token.id))
      (is_pinned grants.notes token.id) (sym (pinned_after token.id) ∙ parts.1) in
      and_from (blocks other.host other.needs token) (is_pinned grants.notes token.id) parts.0 was.1

  none_new : (other : Want) → list_any (is_pinned_ahead (with_grant grants want).notes other)
      (next_tokens grants.table want.host want.needs) ≡ false
  none_new other = list_any_none (is_pinned_ahead (with_grant grants want).notes other)
      (next_tokens grants.table want.host want.needs)
      (All-weaker (λ token. has_id (next_tokens grants.table want.host want.needs) token.id ≡ true)
      (λ token. is_pinned_ahead (with_grant grants want).notes other token ≡ false)
      (λ token there. and_right (blocks other.host other.needs token)
      (is_pinned (with_grant grants want).notes token.id)
      (pinned_after token.id ∙ ap (λ b. not b && is_pinned grants.notes token.id) there))
      (next_tokens grants.table want.host want.needs)
      (among_themselves (next_tokens grants.table want.host want.needs)))

  pinned_before : (other : Want) → is_some (pinned_in_the_way (with_grant grants want) other) ≡ true →
      is_some (pinned_in_the_way grants other) ≡ true
  pinned_before other h =
      let either = sym (list_any-append (is_pinned_ahead (with_grant grants want).notes other) grants.table.tokens
      (next_tokens grants.table want.host want.needs))
      ∙ sym (pinned_any (with_grant grants want) other) ∙ h in
      elim (or_cases (list_any (is_pinned_ahead (with_grant grants want).notes other) grants.table.tokens)
      (list_any (is_pinned_ahead (with_grant grants want).notes other)
      (next_tokens grants.table want.host want.needs)) either) [
        | inl old ↦ pinned_any grants other
            ∙ any_more (is_pinned_ahead (with_grant grants want).notes other) (is_pinned_ahead grants.notes other)
            (ahead_before other) grants.table.tokens old
        | inr fresh ↦ absurd (false≢true (sym (none_new other) ∙ fresh))
      ]

  -- what isn't blocked after it wasn't before, and no new token is in its way
  free_before : (other : Want) → not (is_blocked (with_grant grants want) other) ≡ true →
      (is_blocked grants other ≡ false)
      × (list_any (blocks other.host other.needs) (next_tokens grants.table want.host want.needs) ≡ false)
  free_before other h = or_parts (is_blocked grants other)
      (list_any (blocks other.host other.needs) (next_tokens grants.table want.host want.needs))
      (sym (list_any-append (blocks other.host other.needs) grants.table.tokens
      (next_tokens grants.table want.host want.needs)) ∙ not-true (is_blocked (with_grant grants want) other) h)

pub ask_makes_none_ready : AskMakesNoneReady
ask_makes_none_ready manager want other h =
    let grants = manager.grants in
    let after = with_grant grants want in
    let parts = and_parts (is_none (first_ahead manager.queue other)) (not (is_blocked after other) || is_some
    (pinned_in_the_way after other)) h in
    and_from (is_none (first_ahead manager.queue other)) (not (is_blocked grants other) || is_some
    (pinned_in_the_way grants other)) parts.0
    (elim (or_cases (not (is_blocked after other)) (is_some (pinned_in_the_way after other)) parts.1) [
      | inl free ↦ ap (λ b. not b || is_some (pinned_in_the_way grants other)) (free_before grants want other free).0
      | inr pinned ↦ rw (pinned_before grants want other pinned) (or_true (not (is_blocked grants other)))
    ])
  where
    or_true : (b : Bool) → (b || true) ≡ true
    or_true true = refl
    or_true false = refl

pub ask_makes_none_wanted : AskMakesNoneWanted
unfolding KeepsLaws
ask_makes_none_wanted manager want h next free =
    let table = manager.grants.table in
    let first = or_parts (is_blocked manager.grants want) (is_some (first_ahead manager.queue want)) free in
    let each = none_found (is_ahead want) manager.queue (ap not first.1) in
    each_token (λ token. blocks_any manager.queue token ≡ false)
    (λ need. All (λ other. (not (want.host.0 == other.host.0) && any_conflict need other.needs) ≡ false) manager.queue)
    table.server table.epoch table.last want.host want.needs
    (λ later need all. list_any_none (λ other. blocks other.host other.needs (token_for table.server table.epoch later
    want.host need)) manager.queue all)
    (λ k d within i e inside. passed (nat_lt (get_or manager.queue i e).number want.number)
    (not (want.host.0 == (get_or manager.queue i e).host.0)
    && any_conflict (get_or want.needs k d) (get_or manager.queue i e).needs)
    (lt-ltb (get_or manager.queue i e).number want.number
    (below_later manager.latest want.number (get_or manager.queue i e).number next (h.asked i e inside)))
    (not_passed want (get_or manager.queue i e) (each i e inside) k d within))
  where
    passed : (a b : Bool) → a ≡ true → (a && b) ≡ false → b ≡ false
    passed true b e f = f
    passed false b e f = absurd (false≢true e)

-- the tokens for some needs are in the way of other needs exactly where the wants conflict
blocked_by : (server : ServerId) (epoch last : ℕ) (host other : HostId) (needs others : List Need) →
    list_any (blocks other others) (tokens_from server epoch last host needs)
    ≡ list_any (λ need. not (host.0 == other.0) && any_conflict need others) needs
blocked_by server epoch last host other [] others = refl
blocked_by server epoch last host other (need ∷ needs) others =
    ap (λ b. (not (host.0 == other.0) && any_conflict need others) || b)
    (blocked_by server epoch (last + 1) host other needs others)

factored : {X : Type 0} (b : Bool) (p : X → Bool) (xs : List X) → list_any (λ x. b && p x) xs ≡ (b && list_any p xs)
factored true p xs = refl
factored false p [] = refl
factored false p (x ∷ xs) = factored false p xs

-- the found want is the only one of its number
only_one : (q : Want → Bool) (queue : List Want) (want : Want) → find q queue ≡ Some want →
    AllPairs (λ a b. a.number < b.number) queue → All (λ other. other.number ≡ want.number → other ≡ want) queue
only_one q [] want found rising = All-nil (λ other. other.number ≡ want.number → other ≡ want)
only_one q (x ∷ xs) want found rising =
    let above = pairs_head (λ a b. a.number < b.number) x xs rising in
    elim (cases_Bool (q x)) [
      | inl here ↦
          let it : x ≡ want = some_same x want (let f = found in rw here at f) in
          All-cons (λ other. other.number ≡ want.number → other ≡ want) x xs (λ e. it)
          (All-weaker (λ other. x.number < other.number) (λ other. other.number ≡ want.number → other ≡ want)
          (λ other less e. absurd (let same = ap (λ (w : Want). w.number) it in omega arith)) xs above)
      | inr there ↦
          let later : find q xs ≡ Some want = (let f = found in rw there at f) in
          let less = all_found (λ other. x.number < other.number) q xs want later above in
          All-cons (λ other. other.number ≡ want.number → other ≡ want) x xs (λ e. absurd (omega arith))
          (only_one q xs want later (pairs_tail (λ a b. a.number < b.number) x xs rising))
    ]
  where
    some_same : (x y : Want) → Some x ≡ Some y → x ≡ y
    some_same x y e = cc

-- none in the queue passes where none in it but for one does, and that one doesn't
none_but : (q : Want → Bool) (queue : List Want) (want : Want) →
    All (λ other. other.number ≡ want.number → other ≡ want) queue → q want ≡ false →
    is_none (find q (without_want queue want.number)) ≡ true → is_none (find q queue) ≡ true
none_but q [] want only fails none = refl
none_but q (x ∷ xs) want only fails none =
    let rest = All-tail (λ other. other.number ≡ want.number → other ≡ want) x xs only in
    elim (cases_Bool (x.number == want.number)) [
      | inl same ↦
          let it = All-head (λ other. other.number ≡ want.number → other ≡ want) x xs only
          (eqb-true x.number want.number same) in
          rw (ap q it ∙ fails) (none_but q xs want rest fails (let n = none in rw same at n))
      | inr other ↦ elim (cases_Bool (q x)) [
        | inl passes ↦ absurd (false≢true (let n = none in rw (other, passes) at n))
        | inr stays ↦ rw stays (none_but q xs want rest fails (let n = none in rw (other, stays) at n))
      ]
    ]

granted_free : (manager : Manager) (want other : Want) → first_ready manager ≡ Some want →
    pinned_in_the_way manager.grants want ≡ None → KeepsLaws manager →
    (is_none (first_ahead (without_want manager.queue want.number) other)
    && not (is_blocked (with_grant manager.grants want) other)) ≡ true → can_grant manager other ≡ true
unfolding KeepsLaws
granted_free manager want other found pinned h after =
    let table = manager.grants.table in
    let parts = and_parts (is_none (first_ahead (without_want manager.queue want.number) other))
    (not (is_blocked (with_grant manager.grants want) other)) after in
    let free = free_before manager.grants want other parts.1 in
    let apart : wants_conflict other.host other.needs want.host want.needs ≡ false =
    wants_both other.host other.needs want.host want.needs
    ∙ sym (factored (not (want.host.0 == other.host.0)) (λ need. any_conflict need other.needs) want.needs)
    ∙ sym (blocked_by table.server table.epoch table.last want.host other.host want.needs other.needs)
    ∙ free.1 in
    and_from (is_none (first_ahead manager.queue other)) (not (is_blocked manager.grants other))
    (none_but (is_ahead other) manager.queue want
    (only_one (can_decide manager.grants manager.queue) manager.queue want found h.rising)
    (and_right (nat_lt want.number other.number) (wants_conflict other.host other.needs want.host want.needs) apart)
    parts.0)
    (not_from_false (is_blocked manager.grants other) free.0)

-- what the decision leaves, where it grants
granting : (manager : Manager) (want other : Want) (ready : Option Want) → ready ≡ Some want →
    pinned_in_the_way manager.grants want ≡ None →
    (is_none (first_ahead (queue_after manager.queue ready) other)
    && not (is_blocked (grants_after manager.grants ready) other)) ≡ true →
    (is_none (first_ahead (without_want manager.queue want.number) other)
    && not (is_blocked (with_grant manager.grants want) other)) ≡ true
granting manager want other ready found pinned after =
    let at_want = subst (λ r. (is_none (first_ahead (queue_after manager.queue r) other)
    && not (is_blocked (grants_after manager.grants r) other)) ≡ true) found after in
    subst (λ p. (is_none (first_ahead (without_want manager.queue want.number) other)
    && not (is_blocked (after_decision manager.grants want p) other)) ≡ true) pinned at_want

pub grant_makes_none_ready : GrantMakesNoneReady
unfolding grants_ready queue_ready
grant_makes_none_ready manager want other h found pinned after =
    granted_free manager want other found pinned h
    (granting manager want other (first_ready manager) found pinned after)
