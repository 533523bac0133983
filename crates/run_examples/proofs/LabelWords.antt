-- Labels, calls and filesets that a host knows, as plain data.
use Rattle.std.proofs.Common.{Bool, List, None, Option, Some, [], ap, false, inl, inr, refl, subst, sym, true}
use Rattle.std.proofs.Common.{if◌then◌else◌, ℕ, ◌&&◌, ◌++◌, ◌∙◌, ◌∷◌, ◌≡◌}
use Rattle.std.proofs.lemmas.Bool.{and_parts, and_from}
use Rattle.std.proofs.lemmas.List.Folds.{list_all-append}
use Rattle.std.specs.Prelude.{not}
use Rattle.std.specs.List.{filter, list_all, list_any}
use Rattle.base_types.specs.Name.{same_name}
use Rattle.base_types.specs.declared.ids.FilesetId.{FilesetId}
use Rattle.base_types.specs.declared.ids.ServerId.{ServerId}
use Rattle.tree_calls.specs.declared.call.Call.{Call}
use Rattle.tree_calls.specs.declared.reply.Reply.{Reply}
use Rattle.tree_calls.specs.declared.reply.Reply.TheVariants.{Ok as Fine}
use Rattle.token_types.specs.Conflicts.{same_id}
use Rattle.token_types.specs.declared.token.Kind.{Kind}
use Rattle.token_types.specs.declared.token.Kind.TheVariants.{Bytes, Status, Lock, Opening}
use Rattle.token_types.specs.declared.token.TokenId.{TokenId}
use Rattle.message_types.specs.declared.giving.Ends.{Ends}
use Rattle.message_types.specs.declared.giving.Give.{Give}
use Rattle.message_types.specs.declared.message.Body.{Body}
use Rattle.message_types.specs.declared.message.Body.TheVariants.{Change, Done}
use Rattle.message_types.specs.declared.message.Message.{Message}
use Rattle.message_types.specs.declared.telling.Done.{Done as DoneOf}
use Rattle.run_rules.specs.Messages.{Changing, DoneComes}
use Rattle.run_rules.specs.Past.{In}
use Rattle.run_rules.specs.Tokens.{DoneCounts, EndsUse, FreesPinned, GivesUse, HasEndedUse, IsEnding, LabelInUse}
use Rattle.run_rules.specs.Tokens.{TokenInUse, end_call, end_of, number_of}
use Rattle.run_rules.specs.declared.step.Cause.{Cause}
use Rattle.run_rules.specs.declared.step.Cause.TheVariants.{Message as Came}
use Rattle.run_rules.specs.declared.step.Labelled.{Labelled}
use Rattle.run_rules.specs.declared.step.Step.{Step}
use Rattle.run_examples.proofs.Tests.{implies, so, is_not, not_is, at_all, some_in, any_of, in_front, in_back}
use Rattle.run_examples.proofs.Tests.{in_split}
use Rattle.run_examples.proofs.Tests.{in_filter, from_filter, if_in, in_if}
use Rattle.run_examples.proofs.Tests.{server_is, id_is, ids, name_is, names}
use Rattle.run_examples.proofs.Tests.{same_end, end_is}
use Rattle.run_examples.proofs.Tests.{same_token, token_is, tokens, same_number, number_is, numbers}
use Rattle.run_examples.proofs.Words.{by_message, said, at_said, is_known}
use Rattle.run_examples.proofs.Words.{known_yes, known_is}
use Rattle.run_examples.proofs.Words.{made, made_in, in_made, numbered, changing, changing_in, in_changing, moved}
use Rattle.run_examples.proofs.Words.{was_said, has_kept}
use Rattle.run_examples.proofs.Words.{has_kept_yes, has_kept_is, settles_it, settles_by, settles_is}
use Rattle.run_examples.proofs.TokenChecks.{goes_to}

unfoldable pub same_use : Labelled → Labelled → Bool
same_use a b = same_name a.label b.label && same_token a.token b.token

pub use_is : (a b : Labelled) → same_use a b ≡ true → a ≡ b
unfolding same_use
use_is a b e =
    let p = and_parts (same_name a.label b.label) (same_token a.token b.token) e in
    let l = name_is a.label b.label p.0 in
    let t = token_is a.token b.token p.1 in
    λ i. record { label = l i; token = t i }

pub use_same : (a b : Labelled) → a ≡ b → same_use a b ≡ true
unfolding same_use
use_same a b e =
    and_from (same_name a.label b.label) (same_token a.token b.token) (names a.label b.label (ap (λ
    (x : Labelled). x.label) e))
    (tokens a.token b.token (ap (λ (x : Labelled). x.token) e))

unfoldable pub begun : List Step → List Labelled
begun [] = []
begun (s ∷ past) = s.begun ++ begun past

unfoldable pub is_fine : Reply → Bool
is_fine Fine = true
is_fine _ = false

pub fine_is : (r : Reply) → is_fine r ≡ true → r ≡ Fine
unfolding same_use begun is_fine
fine_is Fine e = refl
fine_is r e = absurd (cc)

pub fine_same : (r : Reply) → r ≡ Fine → is_fine r ≡ true
unfolding same_use begun is_fine
fine_same r e = subst (λ x. is_fine x ≡ true) (sym e) refl

end_call_same : (kind : Kind) (label : List ℕ) → same_end (end_call kind label) (end_call kind label) ≡ true
unfolding same_use begun is_fine
end_call_same (Opening kind) label = names label label refl
end_call_same (Lock writing span) label = names label label refl
end_call_same (Bytes update span) label = names label label refl
end_call_same (Status update) label = names label label refl

pub end_same : (call : Call) (u : Labelled) → call ≡ end_of u → same_end call (end_of u) ≡ true
unfolding same_use begun is_fine
end_same call u e = subst (λ c. same_end c (end_of u) ≡ true) (sym e) (end_call_same u.token.kind u.label)

unfoldable pub ends_use : Step → Labelled → Bool
ends_use s u = list_any (λ a. same_end a.call (end_of u) && is_fine a.reply) s.answers

pub ends_use_yes : (s : Step) (u : Labelled) → ends_use s u ≡ true → EndsUse s u
unfolding same_use begun is_fine ends_use
ends_use_yes s u e =
    let p = some_in (λ a. same_end a.call (end_of u) && is_fine a.reply) s.answers e in
    let q = and_parts (same_end p.0.call (end_of u)) (is_fine p.0.reply) p.2 in
    (p.0, p.1, end_is p.0.call (end_of u) q.0, fine_is p.0.reply q.1)

pub ends_use_is : (s : Step) (u : Labelled) → EndsUse s u → ends_use s u ≡ true
unfolding same_use begun is_fine ends_use
ends_use_is s u x =
    any_of (λ a. same_end a.call (end_of u) && is_fine a.reply) s.answers x.0 x.1
    (and_from (same_end x.0.call (end_of u)) (is_fine x.0.reply) (end_same x.0.call u x.2) (fine_same x.0.reply x.3))

unfoldable pub ends_by : Option Ends → Call → Bool
ends_by None call = false
ends_by (Some ends) call = same_end ends.call call

unfoldable pub gives_use : Give → Labelled → Bool
gives_use g u = ends_by g.ends (end_of u) && list_any (same_id u.token.id) g.ids

ends_by_yes : (o : Option Ends) (call : Call) → ends_by o call ≡ true → (ends : Ends) × (o ≡ Some ends) ×
    (ends.call ≡ call)
unfolding same_use begun is_fine ends_use ends_by gives_use
ends_by_yes None call e = absurd (cc)
ends_by_yes (Some ends) call e = (ends, refl, end_is ends.call call e)

pub gives_use_yes : (g : Give) (u : Labelled) → gives_use g u ≡ true → GivesUse g u
unfolding same_use begun is_fine ends_use ends_by gives_use
gives_use_yes g u e =
    let p = and_parts (ends_by g.ends (end_of u)) (list_any (same_id u.token.id) g.ids) e in
    let q = ends_by_yes g.ends (end_of u) p.0 in
    let r = some_in (same_id u.token.id) g.ids p.1 in
    (q.0, q.1, q.2, subst (λ x. In x g.ids) (sym (id_is u.token.id r.0 r.2)) r.1)

pub gives_use_is : (g : Give) (u : Labelled) → GivesUse g u → gives_use g u ≡ true
unfolding same_use begun is_fine ends_use ends_by gives_use
gives_use_is g u x =
    and_from (ends_by g.ends (end_of u)) (list_any (same_id u.token.id) g.ids)
    (subst (λ o. ends_by o (end_of u) ≡ true) (sym x.1) (end_same x.0.call u x.2))
    (any_of (same_id u.token.id) g.ids u.token.id x.3 (ids u.token.id u.token.id refl))

unfoldable pub stays_used : Step → Labelled → Bool
stays_used s u = not (ends_use s u) && list_all (λ g. not (gives_use g u)) s.made

unfoldable pub in_use : List Step → List Labelled
in_use [] = []
in_use (s ∷ past) = s.begun ++ filter (stays_used s) (in_use past)

stays_yes : (s : Step) (u : Labelled) → stays_used s u ≡ true
    → (EndsUse s u → ⊥) × ((g : Give) → In g s.made → GivesUse g u → ⊥)
unfolding same_use begun is_fine ends_use ends_by gives_use stays_used in_use
stays_yes s u e =
    let p = and_parts (not (ends_use s u)) (list_all (λ g. not (gives_use g u)) s.made) e in (
      λ x. is_not (ends_use s u) p.0 (ends_use_is s u x),
      λ g m x. is_not (gives_use g u) (at_all (λ g. not
          (gives_use g u)) s.made g p.1 m) (gives_use_is g u x),
    )

pub all_not : {A : Type 0} (f : A → Bool) (xs : List A) → ((x : A) → In x xs → f x ≡ true → ⊥) → list_all (λ x. not
    (f x)) xs ≡ true
unfolding same_use begun is_fine ends_use ends_by gives_use stays_used in_use
all_not f [] g = refl
all_not f (x ∷ xs) g =
    and_from (not (f x)) (list_all (λ x. not (f x)) xs) (not_is (f x) (g x (inl refl))) (all_not f xs (λ y m. g y
    (inr m)))

stays_is : (s : Step) (u : Labelled) → (EndsUse s u → ⊥) → ((g : Give) → In g s.made → GivesUse g u → ⊥)
    → stays_used s u ≡ true
unfolding same_use begun is_fine ends_use ends_by gives_use stays_used in_use
stays_is s u n m =
    and_from (not (ends_use s u)) (list_all (λ g. not (gives_use g u)) s.made) (not_is (ends_use s u) (λ e. n
    (ends_use_yes s u e)))
    (all_not (λ g. gives_use g u) s.made (λ g i e. m g i (gives_use_yes g u e)))

pub used_in : (past : List Step) (u : Labelled) → LabelInUse past u → In u (in_use past)
unfolding same_use begun is_fine ends_use ends_by gives_use stays_used in_use
used_in [] u x = elim x [ ]
used_in (s ∷ past) u (inl m) = in_front u s.begun (filter (stays_used s) (in_use past)) m
used_in (s ∷ past) u (inr x) =
    in_back u s.begun (filter (stays_used s) (in_use past)) (in_filter (stays_used s) (in_use past) u
    (used_in past u x.0) (stays_is s u x.1 x.2))

pub in_used : (past : List Step) (u : Labelled) → In u (in_use past) → LabelInUse past u
unfolding same_use begun is_fine ends_use ends_by gives_use stays_used in_use
in_used [] u i = elim i [ ]
in_used (s ∷ past) u i =
    elim (in_split u s.begun (filter (stays_used s) (in_use past)) i) [
      | inl p ↦ inl p
      | inr q ↦ (let r = from_filter (stays_used s) (in_use past) u q in let t = stays_yes s u r.1 in inr
          (in_used past u r.0, t.0, t.1))
    ]

unfoldable pub is_used : List Step → TokenId → Bool
is_used past id = list_any (λ u. same_id u.token.id id) (in_use past)

pub is_used_yes : (past : List Step) (id : TokenId) → is_used past id ≡ true → TokenInUse past id
unfolding same_use begun is_fine ends_use ends_by gives_use stays_used in_use is_used
is_used_yes past id e =
    let p = some_in (λ u. same_id u.token.id id) (in_use past) e in
    (p.0, in_used past p.0 p.1, id_is p.0.token.id id p.2)

pub is_used_is : (past : List Step) (id : TokenId) → TokenInUse past id → is_used past id ≡ true
unfolding same_use begun is_fine ends_use ends_by gives_use stays_used in_use is_used
is_used_is past id x = any_of (λ u. same_id u.token.id id) (in_use past) x.0 (used_in past x.0 x.1)
    (ids x.0.token.id id x.2)

unfoldable pub frees : List Step → Labelled → Bool
frees past u =
    list_any (same_use u) (in_use past)
    && (list_all (λ o. implies (same_id o.token.id u.token.id) (same_use o u))
    (in_use past) && has_kept past u.token.id)

pub in_any_use : (us : List Labelled) (u : Labelled) → list_any (same_use u) us ≡ true → In u us
unfolding same_use begun is_fine ends_use ends_by gives_use stays_used in_use is_used frees
in_any_use us u e = let p = some_in (same_use u) us e in subst (λ x. In x us) (sym (use_is u p.0 p.2)) p.1

pub frees_yes : (past : List Step) (u : Labelled) → frees past u ≡ true → FreesPinned past u
unfolding same_use begun is_fine ends_use ends_by gives_use stays_used in_use is_used frees
frees_yes past u e =
    let a = list_all (λ o. implies (same_id o.token.id u.token.id) (same_use o u)) (in_use past) in
    let p = and_parts (list_any (same_use u) (in_use past)) (a && has_kept past u.token.id) e in
    let q = and_parts a (has_kept past u.token.id) p.1 in (
      (
        in_used past u (in_any_use (in_use past) u p.0),
        λ o x i. use_is o u (so (same_id o.token.id u.token.id) (same_use o u) (at_all (λ o. implies
            (same_id o.token.id u.token.id) (same_use o u)) (in_use past) o q.0 (used_in past o x))
            (ids o.token.id u.token.id i)),
      ),
      has_kept_yes past u.token.id q.1,
    )

pub one : (a b : Bool) → (a ≡ true → b ≡ true) → implies a b ≡ true
unfolding same_use begun is_fine ends_use ends_by gives_use stays_used in_use is_used frees
one true b h = h refl
one false b h = refl

pub all_so : {A : Type 0} (f g : A → Bool) (xs : List A) → ((x : A) → In x xs → f x ≡ true → g x ≡ true)
    → list_all (λ x. implies (f x) (g x)) xs ≡ true
unfolding same_use begun is_fine ends_use ends_by gives_use stays_used in_use is_used frees
all_so f g [] h = refl
all_so f g (x ∷ xs) h =
    and_from (implies (f x) (g x)) (list_all (λ x. implies (f x) (g x)) xs) (one (f x) (g x) (h x (inl refl)))
    (all_so f g xs (λ y m. h y (inr m)))

pub frees_is : (past : List Step) (u : Labelled) → FreesPinned past u → frees past u ≡ true
unfolding frees in_use
frees_is past u x =
    and_from (list_any (same_use u) (in_use past)) (list_all (λ o. implies (same_id o.token.id u.token.id)
    (same_use o u)) (in_use past) && has_kept past u.token.id)
    (any_of (same_use u) (in_use past) u (used_in past u x.0.0) (use_same u u refl))
    (and_from (list_all (λ o. implies (same_id o.token.id u.token.id) (same_use o u)) (in_use past))
    (has_kept past u.token.id)
    (all_so (λ o. same_id o.token.id u.token.id) (λ o. same_use o u) (in_use past) (λ o m e. use_same o u (x.0.1 o
    (in_used past o m) (id_is o.token.id u.token.id e))))
    (has_kept_is past u.token.id x.1))

-- give-backs that ended the use when they were made
abbrev pub endings : List Step → Labelled → List Give
endings [] u = []
endings (s ∷ past) u =
    (if list_any (same_use u) (in_use past) then filter (λ g. gives_use g u) s.made else []) ++ endings past u

endings_in : (past : List Step) (u : Labelled) (g : Give) → HasEndedUse past g u → In g (endings past u)
unfolding same_use begun is_fine ends_use ends_by gives_use stays_used in_use is_used frees
endings_in [] u g e = elim e [ ]
endings_in (s ∷ past) u g (inl x) =
    let used = list_any (same_use u) (in_use past) in
    let gives = filter (λ k. gives_use k u) s.made in
    in_front g (if used then gives else []) (endings past u)
    (in_if used g gives (any_of (same_use u) (in_use past) u (used_in past u x.1) (use_same u u refl))
    (in_filter (λ k. gives_use k u) s.made g x.0 (gives_use_is g u x.2)))
endings_in (s ∷ past) u g (inr e) =
    in_back g (if list_any (same_use u) (in_use past) then filter (λ k. gives_use k u) s.made else [])
    (endings past u) (endings_in past u g e)

in_endings : (past : List Step) (u : Labelled) (g : Give) → In g (endings past u) → HasEndedUse past g u
unfolding same_use begun is_fine ends_use ends_by gives_use stays_used in_use is_used frees
in_endings [] u g i = elim i [ ]
in_endings (s ∷ past) u g i =
    let used = list_any (same_use u) (in_use past) in
    let gives = filter (λ k. gives_use k u) s.made in
    elim (in_split g (if used then gives else []) (endings past u) i) [
      | inl p ↦ (
          let q = if_in used g gives p in
          let r = from_filter (λ k. gives_use k u) s.made g q.1 in
          inl (r.0, in_used past u (in_any_use (in_use past) u q.0), gives_use_yes g u r.1)
          )
      | inr p ↦ inr (in_endings past u g p)
    ]

abbrev pub is_open : List Step → Give → Bool
is_open now g = not (is_known now (number_of g))

unfoldable pub is_ending : List Step → Step → Labelled → Bool
is_ending past s u = list_any (is_open (s ∷ past)) (endings past u)

pub ending_yes : (past : List Step) (s : Step) (u : Labelled) → is_ending past s u ≡ true → IsEnding past s u
unfolding is_ending
ending_yes past s u e =
    let q = some_in (is_open (s ∷ past)) (endings past u) e in (
      q.0,
      in_endings past u q.0 q.1,
      λ k. is_not (is_known (s ∷ past) (number_of q.0)) q.2
          (known_is (s ∷ past) (number_of q.0) k),
    )

pub ending_is : (past : List Step) (s : Step) (u : Labelled) → IsEnding past s u → is_ending past s u ≡ true
unfolding is_ending
ending_is past s u (g, m, n) =
    any_of (is_open (s ∷ past)) (endings past u) g (endings_in past u g m)
    (not_is (is_known (s ∷ past) (number_of g)) (λ e. n (known_yes (s ∷ past) (number_of g) e)))

-- a use that is being ended was begun
pub ending_begun : (past : List Step) (s : Step) (u : Labelled) → IsEnding past s u → In u (begun past)
unfolding begun
ending_begun past s u (g, e, n) = ended past e
  where
    used : (past : List Step) → LabelInUse past u → In u (begun past)
    used [] i = elim i [ ]
    used (s ∷ past) (inl i) = in_front u s.begun (begun past) i
    used (s ∷ past) (inr x) = in_back u s.begun (begun past) (used past x.0)

    ended : (past : List Step) → HasEndedUse past g u → In u (begun past)
    ended [] e = elim e [ ]
    ended (s ∷ past) (inl x) = in_back u s.begun (begun past) (used past x.1)
    ended (s ∷ past) (inr e) = in_back u s.begun (begun past) (ended past e)

-- Dones that count; all Changes are sent to one server
unfoldable pub is_local : ServerId → List Step → Bool
is_local site past = list_all (λ m. goes_to site m m.body) (said past)

pub local_tail : (site : ServerId) (s : Step) (past : List Step) → is_local site (s ∷ past) ≡ true
    → is_local site past ≡ true
unfolding said same_use begun is_fine ends_use ends_by gives_use stays_used in_use is_used frees is_ending
    is_local
local_tail site s past e =
    (and_parts (list_all (λ m. goes_to site m m.body) s.sent) (list_all (λ m. goes_to site m m.body) (said past))
    (sym (list_all-append (λ m. goes_to site m m.body) s.sent (said past)) ∙ e)).1

unfoldable pub counted_by : ServerId → List Step → Message → Body → List DoneOf
counted_by site past m (Done d) =
    if settles_it past site m d.fileset && list_any (same_number (numbered d.fileset d.bring.number))
    (changing site past)
    then d ∷ [] else []
counted_by site past m _ = []

unfoldable pub counted : ServerId → List Step → Cause → List DoneOf
counted site past cause = by_message [] (λ m. counted_by site past m m.body) cause

counted_of : (site : ServerId) (past : List Step) (s : Step) (d : DoneOf) (m : Message) (b : Body) → s.cause ≡ Came m
    → m.body ≡ b
    → In d (counted_by site past m b) → DoneCounts past s site d
unfolding same_use begun is_fine ends_use ends_by gives_use stays_used in_use is_used frees is_ending is_local
    counted_by counted
counted_of site past s d m (Done its) c is i =
    let a = list_any (same_number (numbered its.fileset its.bring.number)) (changing site past) in
    let p = if_in (settles_it past site m its.fileset && a) d (its ∷ []) i in
    let q = and_parts (settles_it past site m its.fileset) a p.0 in
    let r = some_in (same_number (numbered its.fileset its.bring.number)) (changing site past) q.1 in
    elim p.1 [
      | inl e ↦ subst (λ x. DoneCounts past s site x) (sym e) (
        settles_by past s site m its c is q.0,
        in_changing past site its.fileset its.bring.number (subst
            (λ x. In x (changing site past)) (sym (number_is (numbered its.fileset its.bring.number) r.0 r.2)) r.1),
      )
      | inr e ↦ elim e [ ]
    ]
counted_of site past s d m b c is i = elim i [ ]

counted_from : (site : ServerId) (past : List Step) (s : Step) (d : DoneOf) (cause : Cause) → s.cause ≡ cause
    → In d (counted site past cause) → DoneCounts past s site d
unfolding same_use begun is_fine ends_use ends_by gives_use stays_used in_use is_used frees is_ending is_local
    counted_by counted
counted_from site past s d (Came m) c i = counted_of site past s d m m.body c refl i
counted_from site past s d cause c i = elim i [ ]

pub in_counted : (site : ServerId) (past : List Step) (s : Step) (d : DoneOf) → In d (counted site past s.cause)
    → DoneCounts past s site d
unfolding same_use begun is_fine ends_use ends_by gives_use stays_used in_use is_used frees is_ending is_local
    counted_by counted
in_counted site past s d i = counted_from site past s d s.cause refl i

pub counted_in : (site : ServerId) (past : List Step) (s : Step) (d : DoneOf) → DoneCounts past s site d → In d
    (counted site past s.cause)
unfolding same_use begun is_fine ends_use ends_by gives_use stays_used in_use is_used frees is_ending is_local
    counted_by counted
counted_in site past s d (x, c) =
    let p = settles_is past s site d x in
    let n = numbered d.fileset d.bring.number in
    subst (λ z. In d (counted site past z)) (sym p.1)
    (subst (λ b. In d (counted_by site past p.0 b)) (sym p.2)
    (in_if (settles_it past site p.0 d.fileset && list_any (same_number n) (changing site past)) d (d ∷ [])
    (and_from (settles_it past site p.0 d.fileset) (list_any (same_number n) (changing site past)) p.3
    (any_of (same_number n) (changing site past) n (changing_in past site d.fileset d.bring.number c)
    (numbers n n refl))) (inl refl)))

pub counts_to : (past : List Step) (s : Step) (v w : ServerId) (d : DoneOf) → (d.fileset.0 ≡ 0 → v ≡ w)
    → DoneCounts past s v d → DoneCounts past s w d
unfolding same_use begun is_fine ends_use ends_by gives_use stays_used in_use is_used frees is_ending is_local
    counted_by counted
counts_to past s v w d one (inl x, c) = (
  subst (λ u. DoneComes past s u d) (one x.0)
      (inl x),
  moved past v w d.fileset d.bring.number one c,
)
counts_to past s v w d one (inr x, c) = (inr x, moved past v w d.fileset d.bring.number one c)

pub goes_there : (site : ServerId) (past : List Step) (v : ServerId) (fs : FilesetId) (n : ℕ)
    → is_local site past ≡ true
    → Changing past v fs n → fs.0 ≡ 0 → v ≡ site
unfolding goes_to same_use begun is_fine ends_use ends_by gives_use stays_used in_use is_used frees is_ending
    is_local counted_by counted
goes_there site past v fs n e c z =
    let r = was_said past v fs n c in
    let p = at_said (λ m. goes_to site m m.body) past r.1 r.2 r.3 (Change r.0) e r.4 in
    sym (r.6 (ap (λ (x : FilesetId). x.0) r.5 ∙ z)) ∙ server_is r.1 site p.1

pub counts_here : (site : ServerId) (past : List Step) (s : Step) (v : ServerId) (d : DoneOf)
    → is_local site past ≡ true
    → DoneCounts past s v d → DoneCounts past s site d
unfolding same_use begun is_fine ends_use ends_by gives_use stays_used in_use is_used frees is_ending is_local
    counted_by counted
counts_here site past s v d e c = counts_to past s v site d (goes_there site past v d.fileset d.bring.number e c.1) c
