-- What a host's steps tell, as plain data: each word of the rules on tokens is membership in a list that is computed.
use Rattle.run_rules.specs.Messages.{About, Asking, Changing, Comes, ComesIn, DoneComes, HasGreeted, HasKeptToken}
use Rattle.run_rules.specs.Messages.{IsWelcome, KeepsToken, ReturnsToken, Said, Sends, epoch_at, stay_of}
use Rattle.run_rules.specs.Past.{In}
use Rattle.run_rules.specs.Tokens.{AboveFloor, AnswersRequest, AtHand, Drops, EverHeld, GiveOpen, Held, HoldsId}
use Rattle.run_rules.specs.Tokens.{IsKnownNumber, IsOutstanding, IsUseKind, Learns, LeavesHost, Made, Makes, Owns, Uses}
use Rattle.run_rules.specs.Tokens.{WaitsBehind, number_of}
use Rattle.std.proofs.Common.{Bool, List, [], ap, false, inl, inr, refl, subst, sym, true, if◌then◌else◌}
use Rattle.std.proofs.Common.{ℕ, ◌&&◌, ◌++◌, ◌||◌, ◌==◌, ◌∙◌, ◌∷◌, ◌≡◌, ◌<◌, ◌⊎◌}
use Rattle.std.proofs.lemmas.Bool.{and_parts, and_from, or_cases, or_left, or_right, eqb-true, eq-eqb, ltb-true, lt-ltb}
use Rattle.std.specs.Prelude.{not, nat_lt, flat_map}
use Rattle.std.specs.List.{filter, list_all, list_any}
use Rattle.base_types.specs.Ids.{same_fid}
use Rattle.base_types.specs.declared.ids.Fid.{Fid}
use Rattle.base_types.specs.declared.ids.FilesetId.{FilesetId}
use Rattle.base_types.specs.declared.ids.ServerId.{ServerId}
use Rattle.token_types.specs.Conflicts.{same_id}
use Rattle.token_types.specs.declared.token.Token.{Token}
use Rattle.token_types.specs.declared.token.TokenId.{TokenId}
use Rattle.message_types.specs.declared.asking.Change.{Change as ChangeOf}
use Rattle.message_types.specs.declared.asking.Fetch.{Fetch as FetchOf}
use Rattle.message_types.specs.declared.giving.AppliedGive.{AppliedGive}
use Rattle.message_types.specs.declared.giving.Give.{Give}
use Rattle.message_types.specs.declared.giving.Reclaimed.{Reclaimed as ReclaimedOf}
use Rattle.message_types.specs.declared.message.Body.{Body}
use Rattle.message_types.specs.declared.message.Body.TheVariants.{Fetch, Grant, Change, Done, Revoke, Returned, Kept}
use Rattle.message_types.specs.declared.message.Body.TheVariants.{Gone, Hello, Reclaimed}
use Rattle.message_types.specs.declared.message.Message.{Message}
use Rattle.message_types.specs.declared.telling.Bring.{Bring}
use Rattle.message_types.specs.declared.telling.Done.{Done as DoneOf}
use Rattle.message_types.specs.declared.telling.Grant.{Grant as GrantOf}
use Rattle.message_types.specs.declared.tokens.Revoke.{Revoke as RevokeOf}
use Rattle.run_rules.specs.declared.step.Cause.{Cause}
use Rattle.run_rules.specs.declared.step.Cause.TheVariants.{Message as Came}
use Rattle.run_rules.specs.declared.step.Step.{Step}
use Rattle.run_examples.proofs.Tests.{implies, so, is_not, not_is, at_all, some_in, any_of, in_front, in_back}
use Rattle.run_examples.proofs.Tests.{in_split}
use Rattle.run_examples.proofs.Tests.{in_filter, from_filter, in_flat, from_flat, if_in, in_if, same_server}
use Rattle.run_examples.proofs.Tests.{same_fileset}
use Rattle.run_examples.proofs.Tests.{server_is, servers, fileset_is, filesets, same_is, fid_is, fids, id_is, ids}
use Rattle.run_examples.proofs.Tests.{same_token, token_is, tokens, same_number, number_is, numbers}
use Rattle.run_examples.proofs.Tests.{is_use_kind, use_kind_is, use_kind_yes}

-- messages
abbrev pub by_message : {A : Type 0} → A → (Message → A) → Cause → A
by_message other f (Came m) = f m
by_message other f _ = other

abbrev pub told : Message → ServerId → ℕ → ℕ → Body → Message
told m v e n b = record { direction = m.direction; host = m.host; server = v; epoch = e; moves = n; body = b }

as_told : (m : Message) (v : ServerId) (e n : ℕ) (b : Body) → m.server ≡ v → m.epoch ≡ e → m.moves ≡ n → m.body ≡ b
    → m ≡ told m v e n b
as_told m v e n b p q r s =
    λ i. record { direction = m.direction; host = m.host; server = p i; epoch = q i; moves = r i; body = s i }

pub cause_is : (s : Step) (v : ServerId) (e n : ℕ) (b : Body) → (c : ComesIn s v e n b) → s.cause ≡ Came
    (told c.0 v e n b)
cause_is s v e n b c = c.1 ∙ ap Came (as_told c.0 v e n b c.2 c.3 c.4 c.5)

-- a test on what comes, on what is sent, on what was said
pub at_comes : (f : Message → Bool) (s : Step) (v : ServerId) (e n : ℕ) (b : Body) → by_message true f s.cause ≡ true
    → (c : ComesIn s v e n b) → f (told c.0 v e n b) ≡ true
at_comes f s v e n b t c = subst (λ x. by_message true f x ≡ true) (cause_is s v e n b c) t

pub at_sends : (f : Message → Bool) (s : Step) (v : ServerId) (e n : ℕ) (b : Body) → list_all f s.sent ≡ true
    → (p : Sends s v e n b) → f (told p.0 v e n b) ≡ true
at_sends f s v e n b t p =
    subst (λ m. f m ≡ true) (as_told p.0 v e n b p.2 p.3 p.4 p.5) (at_all f s.sent p.0 t p.1)

unfoldable pub said : List Step → List Message
said [] = []
said (s ∷ past) = s.sent ++ said past

pub said_in : (past : List Step) (v : ServerId) (e n : ℕ) (b : Body) → Said past v e n b
    → (m : Message) × In m (said past) × (m.server ≡ v) × (m.epoch ≡ e) × (m.moves ≡ n) × (m.body ≡ b)
unfolding said
said_in [] v e n b x = elim x [ ]
said_in (s ∷ past) v e n b (inl p) = (p.0, in_front p.0 s.sent (said past) p.1, p.2, p.3, p.4, p.5)
said_in (s ∷ past) v e n b (inr x) =
    let p = said_in past v e n b x in (p.0, in_back p.0 s.sent (said past) p.1, p.2, p.3, p.4, p.5)

pub at_said : (f : Message → Bool) (past : List Step) (v : ServerId) (e n : ℕ) (b : Body)
    → list_all f (said past) ≡ true → Said past v e n b → (m : Message) × (f (told m v e n b) ≡ true)
unfolding said
at_said f past v e n b t x =
    let p = said_in past v e n b x in
    (p.0, subst (λ m. f m ≡ true) (as_told p.0 v e n b p.2 p.3 p.4 p.5) (at_all f (said past) p.0 t p.1))

pub in_said : (past : List Step) (m : Message) → In m (said past) → Said past m.server m.epoch m.moves m.body
unfolding said
in_said [] m i = elim i [ ]
in_said (s ∷ past) m i =
    elim (in_split m s.sent (said past) i) [
      | inl p ↦ inl (m, p, refl, refl, refl, refl)
      | inr q ↦ inr
          (in_said past m q)
    ]

-- of the fileset's server, epoch and stay
unfoldable pub is_about : List Step → Message → FilesetId → Bool
is_about past m fileset =
    same_server m.server (stay_of past fileset).server
    && ((m.epoch == epoch_at past (stay_of past fileset).server) && (m.moves == (stay_of past fileset).moves))

pub about : (past : List Step) (s : Step) (m : Message) (fileset : FilesetId) (b : Body) → s.cause ≡ Came m → m.body ≡ b
    → is_about past m fileset ≡ true → About past s fileset b
unfolding said is_about
about past s m fileset b c is e =
    let p = and_parts (same_server m.server (stay_of past fileset).server) ((m.epoch == epoch_at past
    (stay_of past fileset).server) && (m.moves == (stay_of past fileset).moves)) e in
    let q = and_parts (m.epoch == epoch_at past (stay_of past fileset).server) (m.moves ==
    (stay_of past fileset).moves) p.1 in (
      m,
      c,
      server_is m.server (stay_of past fileset).server p.0,
      eqb-true m.epoch (epoch_at past
          (stay_of past fileset).server) q.0,
      eqb-true m.moves (stay_of past fileset).moves q.1,
      is,
    )

-- what comes about a fileset is about it
is_about_it : (past : List Step) (m : Message) (fileset : FilesetId) (b : Body)
    → is_about past (told m (stay_of past fileset).server (epoch_at past (stay_of past fileset).server)
    (stay_of past fileset).moves b) fileset ≡ true
unfolding said is_about
is_about_it past m fileset b =
    and_from (same_server (stay_of past fileset).server (stay_of past fileset).server) ((epoch_at past
    (stay_of past fileset).server == epoch_at past (stay_of past fileset).server) && ((stay_of past fileset).moves ==
    (stay_of past fileset).moves))
    (servers (stay_of past fileset).server (stay_of past fileset).server refl)
    (and_from (epoch_at past (stay_of past fileset).server == epoch_at past (stay_of past fileset).server)
    ((stay_of past fileset).moves == (stay_of past fileset).moves) (same_is (epoch_at past
    (stay_of past fileset).server)) (same_is (stay_of past fileset).moves))

abbrev about_is : (past : List Step) (s : Step) (fileset : FilesetId) (b : Body) → About past s fileset b → Message
about_is past s fileset b c = told c.0 (stay_of past fileset).server (epoch_at past (stay_of past fileset).server)
    (stay_of past fileset).moves b

about_cause : (past : List Step) (s : Step) (fileset : FilesetId) (b : Body) → (c : About past s fileset b)
    → s.cause ≡ Came (about_is past s fileset b c)
unfolding said is_about
about_cause past s fileset b c =
    cause_is s (stay_of past fileset).server (epoch_at past (stay_of past fileset).server) (stay_of past fileset).moves b c

-- give-backs
unfoldable pub made : List Step → List Give
made [] = []
made (s ∷ past) = s.made ++ made past

pub made_in : (past : List Step) (g : Give) → Made past g → In g (made past)
unfolding made
made_in [] g m = elim m [ ]
made_in (s ∷ past) g (inl m) = in_front g s.made (made past) m
made_in (s ∷ past) g (inr m) = in_back g s.made (made past) (made_in past g m)

pub in_made : (past : List Step) (g : Give) → In g (made past) → Made past g
unfolding made
in_made [] g i = elim i [ ]
in_made (s ∷ past) g i = elim (in_split g s.made (made past) i) [ inl p ↦ inl p | inr q ↦ inr (in_made past g q) ]

-- a give-back of this number was made
abbrev pub made_such : List Step → AppliedGive → Bool
made_such past number = list_any (λ g. same_number (number_of g) number) (made past)

-- give-backs that are known as applied
unfoldable pub is_present : List Step → Message → Bool
is_present past m = (m.epoch == epoch_at past m.server) && (m.moves == 0)

unfoldable pub learnt_by : List Step → Message → Body → List AppliedGive
learnt_by past m (Gone number) = if is_about past m number.fileset then number ∷ [] else []
learnt_by past m (Reclaimed answer) = if is_present past m then answer.applied else []
learnt_by past m _ = []

abbrev pub learnt_at : List Step → Cause → List AppliedGive
learnt_at past cause = by_message [] (λ m. learnt_by past m m.body) cause

unfoldable pub learnt : List Step → Cause → List AppliedGive
learnt past cause = filter (made_such past) (learnt_at past cause)

abbrev LearnsFrom : List Step → Step → AppliedGive → Type 0
LearnsFrom past s number =
    About past s number.fileset (Gone number)
    ⊎ ((server : ServerId) × (answer : ReclaimedOf)
    × Comes past s server (Reclaimed answer) × In number answer.applied)

pub learns_in : (past : List Step) (s : Step) (number : AppliedGive) → Learns past s number → In number
    (learnt past s.cause)
unfolding said is_about is_present learnt_by learnt
learns_in past s number (m, from) =
    in_filter (made_such past) (learnt_at past s.cause) number (go from)
    (any_of (λ g. same_number (number_of g) number) (made past) m.0 (made_in past m.0 m.1)
    (numbers (number_of m.0) number m.2))
  where
    go : LearnsFrom past s number → In number (learnt_at past s.cause)
    go (inl c) =
        subst (λ x. In number (learnt_at past x)) (sym (about_cause past s number.fileset (Gone number) c))
        (in_if (is_about past (about_is past s number.fileset (Gone number) c) number.fileset) number (number ∷ [])
        (is_about_it past c.0 number.fileset (Gone number)) (inl refl))
    go (inr (v, answer, c, i)) =
        subst (λ x. In number (learnt_at past x)) (sym (cause_is s v (epoch_at past v) 0 (Reclaimed answer) c))
        (in_if (is_present past (told c.0 v (epoch_at past v) 0 (Reclaimed answer))) number answer.applied (and_from
        (epoch_at past v == epoch_at past v) (0 == 0) (same_is (epoch_at past v)) refl) i)

learns_by : (past : List Step) (s : Step) (number : AppliedGive) (m : Message) (b : Body) → s.cause ≡ Came m
    → m.body ≡ b
    → In number (learnt_by past m b) → LearnsFrom past s number
unfolding said is_about is_present learnt_by learnt
learns_by past s number m (Gone other) c is i =
    let p = if_in (is_about past m other.fileset) number (other ∷ []) i in
    elim p.1 [
      | inl q ↦ inl (subst (λ (x : AppliedGive). About past s x.fileset (Gone x)) (sym q)
          (about past s m other.fileset (Gone other) c is p.0))
      | inr q ↦ elim q [ ]
    ]
learns_by past s number m (Reclaimed answer) c is i =
    let p = if_in (is_present past m) number answer.applied i in
    let q = and_parts (m.epoch == epoch_at past m.server) (m.moves == 0) p.0 in
    inr (m.server, answer, (m, c, refl, eqb-true m.epoch (epoch_at past m.server) q.0, eqb-true m.moves 0 q.1, is), p.1)
learns_by past s number m b c is i = elim i [ ]

pub in_learns : (past : List Step) (s : Step) (number : AppliedGive) (cause : Cause) → s.cause ≡ cause
    → In number (learnt past cause) → Learns past s number
unfolding said is_about is_present learnt_by learnt
in_learns past s number cause c i =
    let p = from_filter (made_such past) (learnt_at past cause) number i in
    let q = some_in (λ g. same_number (number_of g) number) (made past) p.1 in
    ((q.0, in_made past q.0 q.1, number_is (number_of q.0) number q.2), from cause c p.0)
  where
    from : (cause : Cause) → s.cause ≡ cause → In number (learnt_at past cause) → LearnsFrom past s number
    from (Came m) c i = learns_by past s number m m.body c refl i
    from cause c i = elim i [ ]

unfoldable pub known : List Step → List AppliedGive
known [] = []
known (s ∷ past) = learnt past s.cause ++ known past

known_in : (past : List Step) (number : AppliedGive) → IsKnownNumber past number → In number (known past)
unfolding said is_about is_present learnt_by learnt known
known_in [] number k = elim k [ ]
known_in (s ∷ past) number (inl l) = in_front number (learnt past s.cause) (known past) (learns_in past s number l)
known_in (s ∷ past) number (inr k) = in_back number (learnt past s.cause) (known past) (known_in past number k)

in_known : (past : List Step) (number : AppliedGive) → In number (known past) → IsKnownNumber past number
unfolding said is_about is_present learnt_by learnt known
in_known [] number i = elim i [ ]
in_known (s ∷ past) number i =
    elim (in_split number (learnt past s.cause) (known past) i) [
      | inl p ↦ inl
          (in_learns past s number s.cause refl p)
      | inr q ↦ inr (in_known past number q)
    ]

unfoldable pub is_known : List Step → AppliedGive → Bool
is_known past number = list_any (same_number number) (known past)

pub known_yes : (past : List Step) (number : AppliedGive) → is_known past number ≡ true → IsKnownNumber past number
unfolding said is_about is_present learnt_by learnt known is_known
known_yes past number e =
    let p = some_in (same_number number) (known past) e in
    in_known past number (subst (λ x. In x (known past)) (sym (number_is number p.0 p.2)) p.1)

pub known_is : (past : List Step) (number : AppliedGive) → IsKnownNumber past number → is_known past number ≡ true
unfolding said is_about is_present learnt_by learnt known is_known
known_is past number k =
    any_of (same_number number) (known past) number (known_in past number k) (numbers number number refl)

-- tokens that are held
unfoldable pub drops_it : Step → Token → Bool
drops_it s t = list_any (λ leave. same_token leave.token t) s.dropped

pub drops_yes : (s : Step) (t : Token) → drops_it s t ≡ true → Drops s t
unfolding said is_about is_present learnt_by learnt known is_known drops_it
drops_yes s t e =
    let p = some_in (λ leave. same_token leave.token t) s.dropped e in (p.0, p.1, token_is p.0.token t p.2)

pub drops_is : (s : Step) (t : Token) → Drops s t → drops_it s t ≡ true
unfolding said is_about is_present learnt_by learnt known is_known drops_it
drops_is s t d = any_of (λ leave. same_token leave.token t) s.dropped d.0 d.1 (tokens d.0.token t d.2)

unfoldable pub held : List Step → List Token
held [] = []
held (s ∷ past) = filter (λ t. not (drops_it s t)) (s.taken ++ held past)

pub held_in : (past : List Step) (t : Token) → Held past t → In t (held past)
unfolding said is_about is_present learnt_by learnt known is_known drops_it held
held_in [] t h = elim h [ ]
held_in (s ∷ past) t (inl m, kept) =
    in_filter (λ u. not (drops_it s u)) (s.taken ++ held past) t (in_front t s.taken (held past) m) (not_is
    (drops_it s t) (λ e. kept (drops_yes s t e)))
held_in (s ∷ past) t (inr h, kept) =
    in_filter (λ u. not (drops_it s u)) (s.taken ++ held past) t (in_back t s.taken (held past) (held_in past t h))
    (not_is (drops_it s t) (λ e. kept (drops_yes s t e)))

pub in_held : (past : List Step) (t : Token) → In t (held past) → Held past t
unfolding said is_about is_present learnt_by learnt known is_known drops_it held
in_held [] t i = elim i [ ]
in_held (s ∷ past) t i =
    let p = from_filter (λ u. not (drops_it s u)) (s.taken ++ held past) t i in
    let kept : Drops s t → ⊥ = λ d. is_not (drops_it s t) p.1 (drops_is s t d) in
    elim (in_split t s.taken (held past) p.0) [ inl q ↦ (inl q, kept) | inr q ↦ (inr (in_held past t q), kept) ]

-- tokens at hand
abbrev pub hand : Step → List Step → List Token
hand s past = s.taken ++ held past

pub hand_in : (s : Step) (past : List Step) (t : Token) → AtHand s past t → In t (hand s past)
unfolding said is_about is_present learnt_by learnt known is_known drops_it held
hand_in s past t (inl m) = in_front t s.taken (held past) m
hand_in s past t (inr h) = in_back t s.taken (held past) (held_in past t h)

pub in_hand : (s : Step) (past : List Step) (t : Token) → In t (hand s past) → AtHand s past t
unfolding said is_about is_present learnt_by learnt known is_known drops_it held
in_hand s past t i = elim (in_split t s.taken (held past) i) [ inl p ↦ inl p | inr q ↦ inr (in_held past t q) ]

unfoldable pub holds_id : List Step → TokenId → Bool
holds_id past id = list_any (λ t. same_id t.id id) (held past)

pub holds_yes : (past : List Step) (id : TokenId) → holds_id past id ≡ true → HoldsId past id
unfolding said is_about is_present learnt_by learnt known is_known drops_it held holds_id
holds_yes past id e =
    let p = some_in (λ t. same_id t.id id) (held past) e in (p.0, in_held past p.0 p.1, id_is p.0.id id p.2)

pub holds_is : (past : List Step) (id : TokenId) → HoldsId past id → holds_id past id ≡ true
unfolding said is_about is_present learnt_by learnt known is_known drops_it held holds_id
holds_is past id h = any_of (λ t. same_id t.id id) (held past) h.0 (held_in past h.0 h.1) (ids h.0.id id h.2)

unfoldable pub ever : List Step → List Token
ever [] = []
ever (s ∷ past) = s.taken ++ ever past

pub in_ever : (past : List Step) (t : Token) → In t (ever past) → EverHeld past t
unfolding said is_about is_present learnt_by learnt known is_known drops_it held holds_id ever
in_ever [] t i = elim i [ ]
in_ever (s ∷ past) t i = elim (in_split t s.taken (ever past) i) [ inl p ↦ inl p | inr q ↦ inr (in_ever past t q) ]

-- tokens that a step names as they leave
unfoldable pub returned_by : Body → List TokenId
returned_by (Returned named) = named.ids
returned_by _ = []

unfoldable pub returned : Step → List TokenId
returned s = flat_map (λ m. returned_by m.body) s.sent

pub returned_in : (s : Step) (id : TokenId) → ReturnsToken s id → In id (returned s)
unfolding said is_about is_present learnt_by learnt known is_known drops_it held holds_id ever returned_by returned
returned_in s id r =
    in_flat (λ m. returned_by m.body) s.sent r.4.0 id r.4.1 (subst (λ b. In id (returned_by b)) (sym r.4.5) r.5)

returned_of : (s : Step) (id : TokenId) (m : Message) (b : Body) → m.body ≡ b → In m s.sent → In id (returned_by b)
    → ReturnsToken s id
unfolding said is_about is_present learnt_by learnt known is_known drops_it held holds_id ever returned_by returned
returned_of s id m (Returned named) is i j = (m.server, m.epoch, m.moves, named, (m, i, refl, refl, refl, is), j)
returned_of s id m b is i j = elim j [ ]

pub in_returned : (s : Step) (id : TokenId) → In id (returned s) → ReturnsToken s id
unfolding said is_about is_present learnt_by learnt known is_known drops_it held holds_id ever returned_by returned
in_returned s id i =
    let p = from_flat (λ m. returned_by m.body) s.sent id i in returned_of s id p.0 p.0.body refl p.1 p.2

unfoldable pub given : Step → List TokenId
given s = flat_map (λ g. g.ids) s.made

pub given_in : (s : Step) (id : TokenId) → Makes s id → In id (given s)
unfolding said is_about is_present learnt_by learnt known is_known drops_it held holds_id ever returned_by returned
    given
given_in s id m = in_flat (λ g. g.ids) s.made m.0 id m.1 m.2

pub in_given : (s : Step) (id : TokenId) → In id (given s) → Makes s id
unfolding said is_about is_present learnt_by learnt known is_known drops_it held holds_id ever returned_by returned
    given
in_given s id i = from_flat (λ g. g.ids) s.made id i

unfoldable pub gives_it : Step → TokenId → Bool
gives_it s id = list_any (same_id id) (given s)

pub gives_yes : (s : Step) (id : TokenId) → gives_it s id ≡ true → Makes s id
unfolding said is_about is_present learnt_by learnt known is_known drops_it held holds_id ever returned_by returned
    given gives_it
gives_yes s id e =
    let p = some_in (same_id id) (given s) e in in_given s id (subst (λ x. In x (given s)) (sym (id_is id p.0 p.2)) p.1)

unfoldable pub leaves_it : Step → TokenId → Bool
leaves_it s id = list_any (same_id id) (given s ++ returned s)

pub leaves_yes : (s : Step) (id : TokenId) → leaves_it s id ≡ true → LeavesHost s id
unfolding said is_about is_present learnt_by learnt known is_known drops_it held holds_id ever returned_by returned
    given gives_it leaves_it
leaves_yes s id e =
    let p = some_in (same_id id) (given s ++ returned s) e in
    let q = subst (λ x. In x (given s ++ returned s)) (sym (id_is id p.0 p.2)) p.1 in
    elim (in_split id (given s) (returned s) q) [ inl x ↦ inl (in_given s id x) | inr y ↦ inr (in_returned s id y) ]

pub leaves_is : (s : Step) (id : TokenId) → LeavesHost s id → leaves_it s id ≡ true
unfolding said is_about is_present learnt_by learnt known is_known drops_it held holds_id ever returned_by returned
    given gives_it leaves_it
leaves_is s id (inl m) =
    any_of (same_id id) (given s ++ returned s) id (in_front id (given s) (returned s) (given_in s id m))
    (ids id id refl)
leaves_is s id (inr r) =
    any_of (same_id id) (given s ++ returned s) id (in_back id (given s) (returned s) (returned_in s id r))
    (ids id id refl)

unfoldable pub owned : List Step → List Token
owned [] = []
owned (s ∷ past) = filter (λ t. not (leaves_it s t.id)) (s.taken ++ owned past)

pub owned_in : (past : List Step) (t : Token) → Owns past t → In t (owned past)
unfolding said is_about is_present learnt_by learnt known is_known drops_it held holds_id ever returned_by returned
    given gives_it leaves_it owned
owned_in [] t h = elim h [ ]
owned_in (s ∷ past) t (inl m, kept) =
    in_filter (λ u. not (leaves_it s u.id)) (s.taken ++ owned past) t (in_front t s.taken (owned past) m) (not_is
    (leaves_it s t.id) (λ e. kept (leaves_yes s t.id e)))
owned_in (s ∷ past) t (inr h, kept) =
    in_filter (λ u. not (leaves_it s u.id)) (s.taken ++ owned past) t (in_back t s.taken (owned past)
    (owned_in past t h)) (not_is (leaves_it s t.id) (λ e. kept (leaves_yes s t.id e)))

pub in_owned : (past : List Step) (t : Token) → In t (owned past) → Owns past t
unfolding said is_about is_present learnt_by learnt known is_known drops_it held holds_id ever returned_by returned
    given gives_it leaves_it owned
in_owned [] t i = elim i [ ]
in_owned (s ∷ past) t i =
    let p = from_filter (λ u. not (leaves_it s u.id)) (s.taken ++ owned past) t i in
    let kept : LeavesHost s t.id → ⊥ = λ d. is_not (leaves_it s t.id) p.1 (leaves_is s t.id d) in
    elim (in_split t s.taken (owned past) p.0) [ inl q ↦ (inl q, kept) | inr q ↦ (inr (in_owned past t q), kept) ]

-- files without a give-back on its way
unfoldable pub none_open : List Step → Fid → Bool
none_open past fid = list_all (λ g. implies (same_fid g.fid fid) (is_known past (number_of g))) (made past)

pub none_open_yes : (past : List Step) (fid : Fid) → none_open past fid ≡ true → GiveOpen past fid → ⊥
unfolding said is_about is_present learnt_by learnt known is_known drops_it held holds_id ever returned_by returned
    given gives_it leaves_it owned made none_open
none_open_yes past fid e (g, m, f, open_) =
    open_ (known_yes past (number_of g) (so (same_fid g.fid fid) (is_known past (number_of g)) (at_all (λ g. implies
    (same_fid g.fid fid) (is_known past (number_of g))) (made past) g e (made_in past g m)) (fids g.fid fid f)))

unfoldable pub is_waited : List Step → Give → Give → Bool
is_waited past g k =
    same_fileset k.fid.fileset g.fid.fileset && (nat_lt k.number g.number && not (is_known past (number_of k)))

unfoldable pub waits : List Step → Give → Bool
waits past g = list_any (is_waited past g) (made past)

pub waits_yes : (past : List Step) (g : Give) → waits past g ≡ true → WaitsBehind past g
unfolding said is_about is_present learnt_by learnt known is_known drops_it held holds_id ever returned_by returned
    given gives_it leaves_it owned made none_open is_waited waits
waits_yes past g e =
    let p = some_in (is_waited past g) (made past) e in
    let k = p.0 in
    let q = and_parts (same_fileset k.fid.fileset g.fid.fileset) (nat_lt k.number g.number && not (is_known past
    (number_of k))) p.2 in
    let r = and_parts (nat_lt k.number g.number) (not (is_known past (number_of k))) q.1 in (
      k,
      in_made past k p.1,
      fileset_is k.fid.fileset g.fid.fileset q.0,
      ltb-true k.number g.number r.0,
      λ x. is_not
          (is_known past (number_of k)) r.1 (known_is past (number_of k) x),
    )

pub waits_is : (past : List Step) (g : Give) → WaitsBehind past g → waits past g ≡ true
unfolding said is_about is_present learnt_by learnt known is_known drops_it held holds_id ever returned_by returned
    given gives_it leaves_it owned made none_open is_waited waits
waits_is past g w =
    any_of (is_waited past g) (made past) w.0 (made_in past w.0 w.1)
    (and_from (same_fileset w.0.fid.fileset g.fid.fileset) (nat_lt w.0.number g.number && not (is_known past
    (number_of w.0))) (filesets w.0.fid.fileset g.fid.fileset w.2)
    (and_from (nat_lt w.0.number g.number) (not (is_known past (number_of w.0))) (lt-ltb w.0.number g.number w.3)
    (not_is (is_known past (number_of w.0)) (λ e. w.4 (known_yes past (number_of w.0) e)))))

unfoldable pub is_first : List Step → Give → Bool
is_first past g = not (is_known past (number_of g)) && not (waits past g)

pub first_yes : (past : List Step) (g : Give) → Made past g → is_first past g ≡ true → IsOutstanding past g
unfolding said is_about is_present learnt_by learnt known is_known drops_it held holds_id ever returned_by returned
    given gives_it leaves_it owned made none_open is_waited waits is_first
first_yes past g m e =
    let p = and_parts (not (is_known past (number_of g))) (not (waits past g)) e in
    record {
      made = m;
      unknown = λ k. is_not (is_known past (number_of g)) p.0 (known_is past (number_of g) k);
      first = λ w. is_not (waits past g) p.1 (waits_is past g w);
    }

pub first_is : (past : List Step) (g : Give) → IsOutstanding past g → is_first past g ≡ true
unfolding said is_about is_present learnt_by learnt known is_known drops_it held holds_id ever returned_by returned
    given gives_it leaves_it owned made none_open is_waited waits is_first
first_is past g o =
    and_from (not (is_known past (number_of g))) (not (waits past g))
    (not_is (is_known past (number_of g)) (λ e. o.unknown (known_yes past (number_of g) e)))
    (not_is (waits past g) (λ e. o.first (waits_yes past g e)))

-- Fetches that are outstanding, by fileset and number
abbrev pub numbered : FilesetId → ℕ → AppliedGive
numbered fileset number = record { fileset = fileset; number = number }

unfoldable pub fetched_by : Body → List AppliedGive
fetched_by (Fetch f) = numbered f.fid.fileset f.number ∷ []
fetched_by _ = []

unfoldable pub granted_by : List Step → Message → Body → List AppliedGive
granted_by past m (Grant g) =
    if is_about past m g.bring.fid.fileset then numbered g.bring.fid.fileset g.bring.number ∷ [] else []
granted_by past m _ = []

unfoldable pub answered : List Step → Cause → List AppliedGive
answered past cause = by_message [] (λ m. granted_by past m m.body) cause

unfoldable pub asking : List Step → List AppliedGive
asking [] = []
asking (s ∷ past) =
    filter (λ n. not (list_any (same_number n) (answered past s.cause)))
    (flat_map (λ m. fetched_by m.body) s.sent ++ asking past)

granted_of : (past : List Step) (s : Step) (fs : FilesetId) (n : ℕ) (m : Message) (b : Body) → s.cause ≡ Came m
    → m.body ≡ b
    → In (numbered fs n) (granted_by past m b)
    → (g : GrantOf) × About past s fs (Grant g) × (g.bring.fid.fileset ≡ fs) × (g.bring.number ≡ n)
unfolding said is_about is_present learnt_by learnt known is_known drops_it held holds_id ever returned_by returned
    given gives_it leaves_it owned made none_open is_waited waits is_first fetched_by granted_by answered asking
granted_of past s fs n m (Grant g) c is i =
    let p = if_in (is_about past m g.bring.fid.fileset) (numbered fs n) (numbered g.bring.fid.fileset g.bring.number
    ∷ []) i in
    elim p.1 [
      | inl q ↦ (
          let f : g.bring.fid.fileset ≡ fs = sym (ap (λ (x : AppliedGive). x.fileset) q) in
          let k : g.bring.number ≡ n = sym (ap (λ (x : AppliedGive). x.number) q) in
          (g, subst (λ x. About past s x (Grant g)) f (about past s m g.bring.fid.fileset (Grant g) c is p.0), f, k)
          )
      | inr q ↦ elim q [ ]
    ]
granted_of past s fs n m b c is i = elim i [ ]

answered_of : (past : List Step) (s : Step) (fs : FilesetId) (n : ℕ) (cause : Cause) → s.cause ≡ cause
    → In (numbered fs n) (answered past cause)
    → (g : GrantOf) × About past s fs (Grant g) × (g.bring.fid.fileset ≡ fs) × (g.bring.number ≡ n)
unfolding said is_about is_present learnt_by learnt known is_known drops_it held holds_id ever returned_by returned
    given gives_it leaves_it owned made none_open is_waited waits is_first fetched_by granted_by answered asking
answered_of past s fs n (Came m) c i = granted_of past s fs n m m.body c refl i
answered_of past s fs n cause c i = elim i [ ]

pub asking_in : (past : List Step) (fs : FilesetId) (n : ℕ) → Asking past fs n → In (numbered fs n) (asking past)
unfolding said is_about is_present learnt_by learnt known is_known drops_it held holds_id ever returned_by returned
    given gives_it leaves_it owned made none_open is_waited waits is_first fetched_by granted_by answered asking
asking_in [] fs n a = elim a [ ]
asking_in (s ∷ past) fs n (from, unless) =
    in_filter (λ n. not (list_any (same_number n) (answered past s.cause))) (flat_map
    (λ m. fetched_by m.body) s.sent ++ asking past) (numbered fs n)
    (elim from [
      | inl f ↦ in_front (numbered fs n) (flat_map (λ m. fetched_by m.body) s.sent) (asking past)
          (in_flat (λ m. fetched_by m.body) s.sent f.1.3.0 (numbered fs n) f.1.3.1 (subst (λ b. In (numbered fs n)
          (fetched_by b)) (sym f.1.3.5) (inl (λ i. numbered (sym f.2 i) (sym f.3 i)))))
      | inr a ↦ in_back (numbered fs n) (flat_map (λ m. fetched_by m.body) s.sent) (asking past) (asking_in past fs n a)
    ])
    (not_is (list_any (same_number (numbered fs n)) (answered past s.cause)) (λ e.
    let p = some_in (same_number (numbered fs n)) (answered past s.cause) e in
    let q = answered_of past s fs n s.cause refl (subst (λ x. In x (answered past s.cause)) (sym (number_is
    (numbered fs n) p.0 p.2)) p.1) in
    unless q.0 q.1 q.2 q.3))

fetched_of : (s : Step) (fs : FilesetId) (n : ℕ) (m : Message) (b : Body) → m.body ≡ b → In m s.sent
    → In (numbered fs n) (fetched_by b)
    → (f : FetchOf) × ((v : ServerId) × (e : ℕ) × (k : ℕ) × Sends s v e k (Fetch f)) × (f.fid.fileset ≡ fs) ×
    (f.number ≡ n)
unfolding said is_about is_present learnt_by learnt known is_known drops_it held holds_id ever returned_by returned
    given gives_it leaves_it owned made none_open is_waited waits is_first fetched_by granted_by answered asking
fetched_of s fs n m (Fetch f) is i j =
    elim j [
      | inl q ↦ (
        f,
        (m.server, m.epoch, m.moves, (m, i, refl, refl, refl, is)),
        sym (ap (λ
            (x : AppliedGive). x.fileset) q),
        sym (ap (λ (x : AppliedGive). x.number) q),
      )
      | inr q ↦ elim q [ ]
    ]
fetched_of s fs n m b is i j = elim j [ ]

pub in_asking : (past : List Step) (fs : FilesetId) (n : ℕ) → In (numbered fs n) (asking past) → Asking past fs n
unfolding said is_about is_present learnt_by learnt known is_known drops_it held holds_id ever returned_by returned
    given gives_it leaves_it owned made none_open is_waited waits is_first fetched_by granted_by answered asking
in_asking [] fs n i = elim i [ ]
in_asking (s ∷ past) fs n i =
    let p = from_filter (λ n. not (list_any (same_number n) (answered past s.cause))) (flat_map
    (λ m. fetched_by m.body) s.sent ++ asking past) (numbered fs n) i in (
      elim (in_split (numbered fs n) (flat_map (λ m. fetched_by m.body) s.sent) (asking past) p.0) [
        | inl q ↦ (let r = from_flat (λ m. fetched_by m.body) s.sent (numbered fs n) q in inl
            (fetched_of s fs n r.0 r.0.body refl r.1 r.2))
        | inr q ↦ inr (in_asking past fs n q)
      ],
      λ g c f k. is_not (list_any (same_number (numbered fs n)) (answered past s.cause)) p.1
          (any_of (same_number (numbered fs n)) (answered past s.cause) (numbered fs n)
          (subst (λ x. In (numbered fs n) (answered past x)) (sym (about_cause past s fs (Grant g) c))
          (in_if (is_about past (about_is past s fs (Grant g) c) g.bring.fid.fileset) (numbered fs n)
          (numbered g.bring.fid.fileset g.bring.number ∷ [])
          (subst (λ x. is_about past (about_is past s fs (Grant g) c) x ≡ true) (sym f) (is_about_it past c.0 fs
          (Grant g)))
          (inl (λ i. numbered (sym f i) (sym k i)))))
          (numbers (numbered fs n) (numbered fs n) refl)),
    )

-- Changes that are outstanding at a server, by fileset and number
unfoldable pub is_at : ServerId → Message → FilesetId → Bool
is_at v m fs = not (fs.0 == 0) || same_server m.server v

unfoldable pub changed_by : ServerId → Message → Body → List AppliedGive
changed_by v m (Change c) = if is_at v m c.fileset then numbered c.fileset c.number ∷ [] else []
changed_by v m _ = []

unfoldable pub settles_it : List Step → ServerId → Message → FilesetId → Bool
settles_it past v m fs =
    ((fs.0 == 0) && (same_server m.server v && ((m.epoch == epoch_at past v) && (m.moves == 0)))) || is_about past m fs

unfoldable pub settled_by : List Step → ServerId → Message → Body → List AppliedGive
settled_by past v m (Done d) = if settles_it past v m d.fileset then numbered d.fileset d.bring.number ∷ [] else []
settled_by past v m _ = []

unfoldable pub settled : List Step → ServerId → Cause → List AppliedGive
settled past v cause = by_message [] (λ m. settled_by past v m m.body) cause

unfoldable pub changing : ServerId → List Step → List AppliedGive
changing v [] = []
changing v (s ∷ past) =
    filter (λ n. not (list_any (same_number n) (settled past v s.cause)))
    (flat_map (λ m. changed_by v m m.body) s.sent ++ changing v past)

pub settles_by : (past : List Step) (s : Step) (v : ServerId) (m : Message) (d : DoneOf) → s.cause ≡ Came m
    → m.body ≡ Done d
    → settles_it past v m d.fileset ≡ true → DoneComes past s v d
unfolding said is_about is_present learnt_by learnt known is_known drops_it held holds_id ever returned_by returned
    given gives_it leaves_it owned made none_open is_waited waits is_first fetched_by granted_by answered asking is_at
    changed_by settles_it settled_by settled changing
settles_by past s v m d c is e =
    let now = (m.epoch == epoch_at past v) && (m.moves == 0) in
    elim (or_cases ((d.fileset.0 == 0) && (same_server m.server v && now)) (is_about past m d.fileset) e) [
      | inl p ↦ (
          let q = and_parts (d.fileset.0 == 0) (same_server m.server v && now) p in
          let r = and_parts (same_server m.server v) now q.1 in
          let k = and_parts (m.epoch == epoch_at past v) (m.moves == 0) r.1 in
          inl (
            eqb-true d.fileset.0 0 q.0,
            (
              m,
              c,
              server_is m.server v r.0,
              eqb-true m.epoch (epoch_at past v) k.0,
              eqb-true m.moves 0 k.1,
              is,
            ),
          )
          )
      | inr q ↦ inr (about past s m d.fileset (Done d) c is q)
    ]

settled_of : (past : List Step) (s : Step) (v : ServerId) (fs : FilesetId) (n : ℕ) (m : Message) (b : Body)
    → s.cause ≡ Came m
    → m.body ≡ b → In (numbered fs n) (settled_by past v m b)
    → (d : DoneOf) × DoneComes past s v d × (d.fileset ≡ fs) × (d.bring.number ≡ n)
unfolding said is_about is_present learnt_by learnt known is_known drops_it held holds_id ever returned_by returned
    given gives_it leaves_it owned made none_open is_waited waits is_first fetched_by granted_by answered asking is_at
    changed_by settles_it settled_by settled changing
settled_of past s v fs n m (Done d) c is i =
    let p = if_in (settles_it past v m d.fileset) (numbered fs n) (numbered d.fileset d.bring.number ∷ []) i in
    elim p.1 [
      | inl q ↦ (
        d,
        settles_by past s v m d c is p.0,
        sym (ap (λ (x : AppliedGive). x.fileset) q),
        sym (ap (λ
            (x : AppliedGive). x.number) q),
      )
      | inr q ↦ elim q [ ]
    ]
settled_of past s v fs n m b c is i = elim i [ ]

settled_from : (past : List Step) (s : Step) (v : ServerId) (fs : FilesetId) (n : ℕ) (cause : Cause) → s.cause ≡ cause
    → In (numbered fs n) (settled past v cause) → (d : DoneOf) × DoneComes past s v d × (d.fileset ≡ fs) ×
    (d.bring.number ≡ n)
unfolding said is_about is_present learnt_by learnt known is_known drops_it held holds_id ever returned_by returned
    given gives_it leaves_it owned made none_open is_waited waits is_first fetched_by granted_by answered asking is_at
    changed_by settles_it settled_by settled changing
settled_from past s v fs n (Came m) c i = settled_of past s v fs n m m.body c refl i
settled_from past s v fs n cause c i = elim i [ ]

pub settles_is : (past : List Step) (s : Step) (v : ServerId) (d : DoneOf) → DoneComes past s v d
    → (m : Message) × (s.cause ≡ Came m) × (m.body ≡ Done d) × (settles_it past v m d.fileset ≡ true)
unfolding is_about settles_it
settles_is past s v d (inl (z, c)) = (
  told c.0 v (epoch_at past v) 0 (Done d),
  cause_is s v (epoch_at past v) 0 (Done d) c,
  refl,
  or_left ((d.fileset.0 == 0) && (same_server v v && ((epoch_at past v == epoch_at past v) && (0 == 0))))
      (is_about past (told c.0 v (epoch_at past v) 0 (Done d)) d.fileset)
      (and_from (d.fileset.0 == 0) (same_server v v && ((epoch_at past v == epoch_at past v) && (0 == 0)))
      (eq-eqb d.fileset.0 0 z)
      (and_from (same_server v v) ((epoch_at past v == epoch_at past v) && (0 == 0)) (servers v v refl)
      (and_from (epoch_at past v == epoch_at past v) (0 == 0) (same_is (epoch_at past v)) refl))),
)
settles_is past s v d (inr c) = (
  about_is past s d.fileset (Done d) c,
  about_cause past s d.fileset (Done d) c,
  refl,
  or_right ((d.fileset.0 == 0) && (same_server (stay_of past d.fileset).server v && ((epoch_at past
      (stay_of past d.fileset).server == epoch_at past v) && ((stay_of past d.fileset).moves == 0))))
      (is_about past (about_is past s d.fileset
      (Done d) c) d.fileset) (is_about_it past c.0 d.fileset (Done d)),
)

settled_in : (past : List Step) (s : Step) (v : ServerId) (d : DoneOf) → DoneComes past s v d
    → In (numbered d.fileset d.bring.number) (settled past v s.cause)
unfolding said is_about is_present learnt_by learnt known is_known drops_it held holds_id ever returned_by returned
    given gives_it leaves_it owned made none_open is_waited waits is_first fetched_by granted_by answered asking is_at
    changed_by settles_it settled_by settled changing
settled_in past s v d x =
    let p = settles_is past s v d x in
    let n = numbered d.fileset d.bring.number in
    subst (λ y. In n (settled past v y)) (sym p.1)
    (subst (λ b. In n (settled_by past v p.0 b)) (sym p.2)
    (in_if (settles_it past v p.0 d.fileset) n (n ∷ []) p.3 (inl refl)))

at_if : (v to : ServerId) (m : Message) (fs : FilesetId) → m.server ≡ to → (fs.0 ≡ 0 → to ≡ v) → is_at v m fs ≡ true
unfolding said is_about is_present learnt_by learnt known is_known drops_it held holds_id ever returned_by returned
    given gives_it leaves_it owned made none_open is_waited waits is_first fetched_by granted_by answered asking is_at
    changed_by settles_it settled_by settled changing
at_if v to m fs at where_ = go (fs.0 == 0) refl
  where
    go : (b : Bool) → (fs.0 == 0) ≡ b → (not b || same_server m.server v) ≡ true
    go true e = servers m.server v (at ∙ where_ (eqb-true fs.0 0 e))
    go false e = refl

if_at : (v : ServerId) (m : Message) (fs : FilesetId) → is_at v m fs ≡ true → fs.0 ≡ 0 → m.server ≡ v
unfolding said is_about is_present learnt_by learnt known is_known drops_it held holds_id ever returned_by returned
    given gives_it leaves_it owned made none_open is_waited waits is_first fetched_by granted_by answered asking is_at
    changed_by settles_it settled_by settled changing
if_at v m fs e z = server_is m.server v (subst (λ b. (not b || same_server m.server v) ≡ true) (eq-eqb fs.0 0 z) e)

pub changing_in : (past : List Step) (v : ServerId) (fs : FilesetId) (n : ℕ) → Changing past v fs n
    → In (numbered fs n) (changing v past)
unfolding said is_about is_present learnt_by learnt known is_known drops_it held holds_id ever returned_by returned
    given gives_it leaves_it owned made none_open is_waited waits is_first fetched_by granted_by answered asking is_at
    changed_by settles_it settled_by settled changing
changing_in [] v fs n a = elim a [ ]
changing_in (s ∷ past) v fs n (from, unless) =
    in_filter (λ n. not (list_any (same_number n) (settled past v s.cause))) (flat_map
    (λ m. changed_by v m m.body) s.sent ++ changing v past) (numbered fs n)
    (elim from [
      | inl c ↦ (
          let m = c.1.3.0 in
          let is : m.body ≡ Change c.0 = c.1.3.5 in
          in_front (numbered fs n) (flat_map (λ m. changed_by v m m.body) s.sent) (changing v past)
          (in_flat (λ m. changed_by v m m.body) s.sent m (numbered fs n) c.1.3.1
          (subst (λ b. In (numbered fs n) (changed_by v m b)) (sym is)
          (in_if (is_at v m c.0.fileset) (numbered fs n) (numbered c.0.fileset c.0.number ∷ [])
          (at_if v c.1.0 m c.0.fileset c.1.3.2 c.1.4) (inl (λ i. numbered (sym c.2 i) (sym c.3 i))))))
          )
      | inr a ↦ in_back (numbered fs n) (flat_map (λ m. changed_by v m m.body) s.sent) (changing v past)
          (changing_in past v fs n a)
    ])
    (not_is (list_any (same_number (numbered fs n)) (settled past v s.cause)) (λ e.
    let p = some_in (same_number (numbered fs n)) (settled past v s.cause) e in
    let q = settled_from past s v fs n s.cause refl (subst (λ x. In x (settled past v s.cause)) (sym (number_is
    (numbered fs n) p.0 p.2)) p.1) in
    unless q.0 q.1 q.2 q.3))

changed_of : (s : Step) (v : ServerId) (fs : FilesetId) (n : ℕ) (m : Message) (b : Body) → m.body ≡ b → In m s.sent
    → In (numbered fs n) (changed_by v m b)
    → (c : ChangeOf) × ((to : ServerId) × (e : ℕ) × (k : ℕ) × Sends s to e k (Change c) × (c.fileset.0 ≡ 0 → to ≡ v))
    × (c.fileset ≡ fs) × (c.number ≡ n)
unfolding said is_about is_present learnt_by learnt known is_known drops_it held holds_id ever returned_by returned
    given gives_it leaves_it owned made none_open is_waited waits is_first fetched_by granted_by answered asking is_at
    changed_by settles_it settled_by settled changing
changed_of s v fs n m (Change c) is i j =
    let p = if_in (is_at v m c.fileset) (numbered fs n) (numbered c.fileset c.number ∷ []) j in
    elim p.1 [
      | inl q ↦ (
        c,
        (m.server, m.epoch, m.moves, (m, i, refl, refl, refl, is), if_at v m c.fileset p.0),
        sym (ap (λ
            (x : AppliedGive). x.fileset) q),
        sym (ap (λ (x : AppliedGive). x.number) q),
      )
      | inr q ↦ elim q [ ]
    ]
changed_of s v fs n m b is i j = elim j [ ]

pub in_changing : (past : List Step) (v : ServerId) (fs : FilesetId) (n : ℕ) → In (numbered fs n) (changing v past)
    → Changing past v fs n
unfolding said is_about is_present learnt_by learnt known is_known drops_it held holds_id ever returned_by returned
    given gives_it leaves_it owned made none_open is_waited waits is_first fetched_by granted_by answered asking is_at
    changed_by settles_it settled_by settled changing
in_changing [] v fs n i = elim i [ ]
in_changing (s ∷ past) v fs n i =
    let p = from_filter (λ n. not (list_any (same_number n) (settled past v s.cause))) (flat_map
    (λ m. changed_by v m m.body) s.sent ++ changing v past) (numbered fs n) i in (
      elim (in_split (numbered fs n) (flat_map (λ m. changed_by v m m.body) s.sent) (changing v past) p.0) [
        | inl q ↦ (let r = from_flat (λ m. changed_by v m m.body) s.sent (numbered fs n) q in inl
            (changed_of s v fs n r.0 r.0.body refl r.1 r.2))
        | inr q ↦ inr (in_changing past v fs n q)
      ],
      λ d x f k. is_not (list_any (same_number (numbered fs n)) (settled past v s.cause)) p.1
          (any_of (same_number (numbered fs n)) (settled past v s.cause) (numbered fs n)
          (subst (λ (x : AppliedGive). In x (settled past v s.cause)) (λ i. numbered (f i) (k i))
          (settled_in past s v d x))
          (numbers (numbered fs n) (numbered fs n) refl)),
    )

-- but for fileset 0 it is the same at each server
pub moved : (past : List Step) (v w : ServerId) (fs : FilesetId) (n : ℕ) → (fs.0 ≡ 0 → v ≡ w) → Changing past v fs n
    → Changing past w fs n
unfolding said is_about is_present learnt_by learnt known is_known drops_it held holds_id ever returned_by returned
    given gives_it leaves_it owned made none_open is_waited waits is_first fetched_by granted_by answered asking is_at
    changed_by settles_it settled_by settled changing
moved [] v w fs n one a = elim a [ ]
moved (s ∷ past) v w fs n one (from, unless) = (
  elim from [
    | inl c ↦ inl (
      c.0,
      (
        c.1.0,
        c.1.1,
        c.1.2,
        c.1.3,
        λ z. c.1.4 z ∙ one (sym (ap (λ
            (x : FilesetId). x.0) c.2) ∙ z),
      ),
      c.2,
      c.3,
    )
    | inr a ↦ inr (moved past v w fs n one a)
  ],
  λ d x f k. unless d (elim x [
    | inl y ↦ subst (λ u. DoneComes past s u d) (sym (one (sym (ap (λ
        (x : FilesetId). x.0) f) ∙ y.0))) (inl y)
    | inr y ↦ inr y
  ]) f k,
)

-- the Change was said
pub was_said : (past : List Step) (v : ServerId) (fs : FilesetId) (n : ℕ) → Changing past v fs n
    → (c : ChangeOf) × (to : ServerId) × (e k : ℕ) × Said past to e k (Change c) × (c.fileset ≡ fs) ×
    (c.fileset.0 ≡ 0 → to ≡ v)
unfolding said is_about is_present learnt_by learnt known is_known drops_it held holds_id ever returned_by returned
    given gives_it leaves_it owned made none_open is_waited waits is_first fetched_by granted_by answered asking is_at
    changed_by settles_it settled_by settled changing
was_said [] v fs n a = elim a [ ]
was_said (s ∷ past) v fs n (from, unless) =
    elim from [
      | inl c ↦ (c.0, c.1.0, c.1.1, c.1.2, inl c.1.3, c.2, c.1.4)
      | inr a ↦ (let r = was_said past v fs n a in (r.0, r.1, r.2, r.3, inr r.4, r.5, r.6))
    ]

-- servers that the host greeted
abbrev pub greets_at : ServerId → Message → Body → Bool
greets_at v m Hello = same_server m.server v
greets_at v m _ = false

abbrev pub has_greeted : List Step → ServerId → Bool
has_greeted past v = list_any (λ m. greets_at v m m.body) (said past)

hello_at : (v : ServerId) (m : Message) (b : Body) → greets_at v m b ≡ true → (b ≡ Hello) × (m.server ≡ v)
hello_at v m Hello e = (refl, server_is m.server v e)
hello_at v m b e = absurd (cc)

has_greeted_yes : (past : List Step) (v : ServerId) → has_greeted past v ≡ true → HasGreeted past v
has_greeted_yes past v e =
    let q = some_in (λ m. greets_at v m m.body) (said past) e in
    let m = q.0 in
    let p = hello_at v m m.body q.2 in (
      m.epoch,
      m.moves,
      subst (λ (x : ServerId × Body). Said past x.0 m.epoch m.moves x.1) (λ i. (p.1 i, p.0 i)) (in_said past m q.1),
    )

has_greeted_is : (past : List Step) (v : ServerId) → HasGreeted past v → has_greeted past v ≡ true
has_greeted_is past v (e, n, x) =
    let p = said_in past v e n Hello x in
    any_of (λ m. greets_at v m m.body) (said past) p.0 p.1 (subst (λ b. greets_at v p.0 b ≡ true) (sym p.5)
    (servers p.0.server v p.2))

-- servers that the host is welcome at
unfoldable pub welcomed_by : List Step → Step → Message → Body → List ServerId
welcomed_by past s m (Reclaimed answer) =
    if ((m.epoch == epoch_at (s ∷ past) m.server) && (m.moves == 0)) && has_greeted past m.server then m.server ∷ []
    else []
welcomed_by past s m _ = []

unfoldable pub welcomed : List Step → Step → Cause → List ServerId
welcomed past s cause = by_message [] (λ m. welcomed_by past s m m.body) cause

unfoldable pub welcomes : List Step → List ServerId
welcomes [] = []
welcomes (s ∷ past) = welcomed past s s.cause ++ welcomes past

welcomed_of : (past : List Step) (s : Step) (v : ServerId) (m : Message) (b : Body) → s.cause ≡ Came m → m.body ≡ b
    → In v (welcomed_by past s m b)
    → HasGreeted past v × ((answer : ReclaimedOf) × ComesIn s v (epoch_at (s ∷ past) v) 0 (Reclaimed answer))
unfolding said is_about is_present learnt_by learnt known is_known drops_it held holds_id ever returned_by returned
    given gives_it leaves_it owned made none_open is_waited waits is_first fetched_by granted_by answered asking is_at
    changed_by settles_it settled_by settled changing welcomed_by welcomed welcomes
welcomed_of past s v m (Reclaimed answer) c is i =
    let x = (m.epoch == epoch_at (s ∷ past) m.server) && (m.moves == 0) in
    let p = if_in (x && has_greeted past m.server) v (m.server ∷ []) i in
    let g = and_parts x (has_greeted past m.server) p.0 in
    let q = and_parts (m.epoch == epoch_at (s ∷ past) m.server) (m.moves == 0) g.0 in
    elim p.1 [
      | inl e ↦ (
        has_greeted_yes past v (subst (λ u. has_greeted past u ≡ true) (sym e) g.1),
        (
          answer,
          (
            m,
            c,
            sym e,
            eqb-true m.epoch (epoch_at (s ∷ past) m.server) q.0 ∙ ap (epoch_at (s ∷ past))
                (sym e),
            eqb-true m.moves 0 q.1,
            is,
          ),
        ),
      )
      | inr e ↦ elim e [ ]
    ]
welcomed_of past s v m b c is i = elim i [ ]

welcomed_from : (past : List Step) (s : Step) (v : ServerId) (cause : Cause) → s.cause ≡ cause → In v
    (welcomed past s cause)
    → HasGreeted past v × ((answer : ReclaimedOf) × ComesIn s v (epoch_at (s ∷ past) v) 0 (Reclaimed answer))
unfolding said is_about is_present learnt_by learnt known is_known drops_it held holds_id ever returned_by returned
    given gives_it leaves_it owned made none_open is_waited waits is_first fetched_by granted_by answered asking is_at
    changed_by settles_it settled_by settled changing welcomed_by welcomed welcomes
welcomed_from past s v (Came m) c i = welcomed_of past s v m m.body c refl i
welcomed_from past s v cause c i = elim i [ ]

pub in_welcomes : (past : List Step) (v : ServerId) → In v (welcomes past) → IsWelcome past v
unfolding said is_about is_present learnt_by learnt known is_known drops_it held holds_id ever returned_by returned
    given gives_it leaves_it owned made none_open is_waited waits is_first fetched_by granted_by answered asking is_at
    changed_by settles_it settled_by settled changing welcomed_by welcomed welcomes
in_welcomes [] v i = elim i [ ]
in_welcomes (s ∷ past) v i =
    elim (in_split v (welcomed past s s.cause) (welcomes past) i) [
      | inl p ↦ inl
          (welcomed_from past s v s.cause refl p)
      | inr q ↦ inr (in_welcomes past v q)
    ]

pub welcomes_in : (past : List Step) (v : ServerId) → IsWelcome past v → In v (welcomes past)
unfolding said is_about is_present learnt_by learnt known is_known drops_it held holds_id ever returned_by returned
    given gives_it leaves_it owned made none_open is_waited waits is_first fetched_by granted_by answered asking is_at
    changed_by settles_it settled_by settled changing welcomed_by welcomed welcomes
welcomes_in [] v w = elim w [ ]
welcomes_in (s ∷ past) v (inl (greeted, (answer, c))) =
    let x = (epoch_at (s ∷ past) v == epoch_at (s ∷ past) v) && (0 == 0) in
    in_front v (welcomed past s s.cause) (welcomes past)
    (subst (λ x. In v (welcomed past s x)) (sym (cause_is s v (epoch_at (s ∷ past) v) 0 (Reclaimed answer) c))
    (in_if (x && has_greeted past v) v (v ∷ []) (and_from x (has_greeted past v) (and_from (epoch_at (s ∷ past) v ==
    epoch_at (s ∷ past) v) (0 == 0) (same_is (epoch_at (s ∷ past) v)) refl) (has_greeted_is past v greeted))
    (inl refl)))
welcomes_in (s ∷ past) v (inr w) = in_back v (welcomed past s s.cause) (welcomes past) (welcomes_in past v w)

unfoldable pub is_welcome : List Step → ServerId → Bool
is_welcome past v = list_any (same_server v) (welcomes past)

pub welcome_yes : (past : List Step) (v : ServerId) → is_welcome past v ≡ true → IsWelcome past v
unfolding said is_about is_present learnt_by learnt known is_known drops_it held holds_id ever returned_by returned
    given gives_it leaves_it owned made none_open is_waited waits is_first fetched_by granted_by answered asking is_at
    changed_by settles_it settled_by settled changing welcomed_by welcomed welcomes is_welcome
welcome_yes past v e =
    let p = some_in (same_server v) (welcomes past) e in
    in_welcomes past v (subst (λ x. In x (welcomes past)) (sym (server_is v p.0 p.2)) p.1)

pub welcome_is : (past : List Step) (v : ServerId) → IsWelcome past v → is_welcome past v ≡ true
unfolding said is_about is_present learnt_by learnt known is_known drops_it held holds_id ever returned_by returned
    given gives_it leaves_it owned made none_open is_waited waits is_first fetched_by granted_by answered asking is_at
    changed_by settles_it settled_by settled changing welcomed_by welcomed welcomes is_welcome
welcome_is past v w = any_of (same_server v) (welcomes past) v (welcomes_in past v w) (servers v v refl)

-- tokens that a Kept named
unfoldable pub kept_by : Body → List TokenId
kept_by (Kept named) = named.ids
kept_by _ = []

unfoldable pub kept_now : Step → List TokenId
kept_now s = flat_map (λ m. kept_by m.body) s.sent

pub kept_in : (s : Step) (id : TokenId) → KeepsToken s id → In id (kept_now s)
unfolding said is_about is_present learnt_by learnt known is_known drops_it held holds_id ever returned_by returned
    given gives_it leaves_it owned made none_open is_waited waits is_first fetched_by granted_by answered asking is_at
    changed_by settles_it settled_by settled changing welcomed_by welcomed welcomes is_welcome kept_by kept_now
kept_in s id r = in_flat (λ m. kept_by m.body) s.sent r.4.0 id r.4.1 (subst (λ b. In id (kept_by b)) (sym r.4.5) r.5)

kept_of : (s : Step) (id : TokenId) (m : Message) (b : Body) → m.body ≡ b → In m s.sent → In id (kept_by b) → KeepsToken s id
unfolding said is_about is_present learnt_by learnt known is_known drops_it held holds_id ever returned_by returned
    given gives_it leaves_it owned made none_open is_waited waits is_first fetched_by granted_by answered asking is_at
    changed_by settles_it settled_by settled changing welcomed_by welcomed welcomes is_welcome kept_by kept_now
kept_of s id m (Kept named) is i j = (m.server, m.epoch, m.moves, named, (m, i, refl, refl, refl, is), j)
kept_of s id m b is i j = elim j [ ]

pub in_kept : (s : Step) (id : TokenId) → In id (kept_now s) → KeepsToken s id
unfolding said is_about is_present learnt_by learnt known is_known drops_it held holds_id ever returned_by returned
    given gives_it leaves_it owned made none_open is_waited waits is_first fetched_by granted_by answered asking is_at
    changed_by settles_it settled_by settled changing welcomed_by welcomed welcomes is_welcome kept_by kept_now
in_kept s id i = let p = from_flat (λ m. kept_by m.body) s.sent id i in kept_of s id p.0 p.0.body refl p.1 p.2

abbrev pub takes_id : Step → TokenId → Bool
takes_id s id = list_any (λ t. same_id t.id id) s.taken

unfoldable pub has_kept : List Step → TokenId → Bool
has_kept [] id = false
has_kept (s ∷ past) id = list_any (same_id id) (kept_now s) || (has_kept past id && not (takes_id s id))

pub has_kept_yes : (past : List Step) (id : TokenId) → has_kept past id ≡ true → HasKeptToken past id
unfolding said is_about is_present learnt_by learnt known is_known drops_it held holds_id ever returned_by returned
    given gives_it leaves_it owned made none_open is_waited waits is_first fetched_by granted_by answered asking is_at
    changed_by settles_it settled_by settled changing welcomed_by welcomed welcomes is_welcome kept_by kept_now
    has_kept
has_kept_yes [] id e = absurd (cc)
has_kept_yes (s ∷ past) id e =
    elim (or_cases (list_any (same_id id) (kept_now s)) (has_kept past id && not (takes_id s id)) e) [
      | inl p ↦ (let q = some_in (same_id id) (kept_now s) p in inl (in_kept s id (subst (λ x. In x (kept_now s))
          (sym (id_is id q.0 q.2)) q.1)))
      | inr q ↦ (
          let r = and_parts (has_kept past id) (not (takes_id s id)) q in
          inr (
            has_kept_yes past id r.0,
            λ x. is_not (takes_id s id) r.1 (any_of (λ t. same_id t.id id) s.taken x.0 x.1 (ids x.0.id id x.2)),
          )
          )
    ]

pub has_kept_is : (past : List Step) (id : TokenId) → HasKeptToken past id → has_kept past id ≡ true
unfolding said is_about is_present learnt_by learnt known is_known drops_it held holds_id ever returned_by returned
    given gives_it leaves_it owned made none_open is_waited waits is_first fetched_by granted_by answered asking is_at
    changed_by settles_it settled_by settled changing welcomed_by welcomed welcomes is_welcome kept_by kept_now
    has_kept
has_kept_is [] id k = elim k [ ]
has_kept_is (s ∷ past) id (inl k) =
    or_left (list_any (same_id id) (kept_now s)) (has_kept past id && not (takes_id s id)) (any_of (same_id id) (kept_now s) id
    (kept_in s id k) (ids id id refl))
has_kept_is (s ∷ past) id (inr k) =
    or_right (list_any (same_id id) (kept_now s)) (has_kept past id && not (takes_id s id))
    (and_from (has_kept past id) (not (takes_id s id)) (has_kept_is past id k.0)
    (not_is (takes_id s id) (λ e. let x = some_in (λ t. same_id t.id id) s.taken e in
    k.1 (x.0, x.1, id_is x.0.id id x.2))))

-- above the floor of a file: enough for it
unfoldable pub floor_by : Fid → ℕ → Body → Bool
floor_by fid stamp (Revoke r) = implies (same_fid r.fid fid) (nat_lt r.stamp stamp)
floor_by fid stamp (Grant g) = implies (same_fid g.bring.fid fid) (nat_lt g.bring.stamp stamp)
floor_by fid stamp (Done d) = implies (same_fid d.bring.fid fid) (nat_lt d.bring.stamp stamp)
floor_by fid stamp _ = true

unfoldable pub renews : List Step → Step → FilesetId → Bool
renews past s fs = nat_lt (epoch_at past (stay_of past fs).server) (epoch_at (s ∷ past) (stay_of past fs).server)

unfoldable pub is_above : List Step → Fid → ℕ → Bool
is_above [] fid stamp = nat_lt 0 stamp
is_above (s ∷ past) fid stamp =
    (renews past s fid.fileset && nat_lt 0 stamp)
    || (is_above past fid stamp && by_message true (λ m. floor_by fid stamp m.body) s.cause)

pub above_yes : (past : List Step) (fid : Fid) (stamp : ℕ) → is_above past fid stamp ≡ true → AboveFloor past fid stamp
unfolding said is_about is_present learnt_by learnt known is_known drops_it held holds_id ever returned_by returned
    given gives_it leaves_it owned made none_open is_waited waits is_first fetched_by granted_by answered asking is_at
    changed_by settles_it settled_by settled changing welcomed_by welcomed welcomes is_welcome kept_by kept_now
    has_kept floor_by renews is_above
above_yes [] fid stamp e = ltb-true 0 stamp e
above_yes (s ∷ past) fid stamp e =
    elim (or_cases (renews past s fid.fileset && nat_lt 0 stamp) (is_above past fid stamp && by_message true
    (λ m. floor_by fid stamp m.body) s.cause) e) [
      | inl p ↦ (
          let q = and_parts (renews past s fid.fileset) (nat_lt 0 stamp) p in
          inl (
            inl (ltb-true (epoch_at past (stay_of past fid.fileset).server) (epoch_at (s ∷ past)
                (stay_of past fid.fileset).server) q.0),
            ltb-true 0 stamp q.1,
          )
          )
      | inr q ↦ (let r = and_parts (is_above past fid stamp) (by_message true
          (λ m. floor_by fid stamp m.body) s.cause) q in inr (above_yes past fid stamp r.0, revokes r.1, brings r.1))
    ]
  where
    revokes : by_message true (λ m. floor_by fid stamp m.body) s.cause ≡ true
        → (r : RevokeOf) → About past s fid.fileset (Revoke r) → r.fid ≡ fid → r.stamp < stamp
    revokes t r c f =
        ltb-true r.stamp stamp (so (same_fid r.fid fid) (nat_lt r.stamp stamp) (at_comes
        (λ m. floor_by fid stamp m.body) s (stay_of past fid.fileset).server (epoch_at past
        (stay_of past fid.fileset).server) (stay_of past fid.fileset).moves (Revoke r) t c) (fids r.fid fid f))

    brings : by_message true (λ m. floor_by fid stamp m.body) s.cause ≡ true
        → (w : Bring) → AnswersRequest past s w → AboveFloor past w.fid w.stamp → (GiveOpen past w.fid → ⊥) → w.fid ≡ fid
        → w.stamp < stamp
    brings t w (inl (g, c, is, a)) up free f =
        let p = so (same_fid g.bring.fid fid) (nat_lt g.bring.stamp stamp) (at_comes
        (λ m. floor_by fid stamp m.body) s (stay_of past w.fid.fileset).server (epoch_at past
        (stay_of past w.fid.fileset).server) (stay_of past w.fid.fileset).moves (Grant g) t c) (fids g.bring.fid fid
        (ap (λ (x : Bring). x.fid) is ∙ f)) in
        subst (λ (x : Bring). x.stamp < stamp) is (ltb-true g.bring.stamp stamp p)
    brings t w (inr (d, c, is, a, lone)) up free f =
        let p = so (same_fid d.bring.fid fid) (nat_lt d.bring.stamp stamp) (at_comes
        (λ m. floor_by fid stamp m.body) s (stay_of past w.fid.fileset).server (epoch_at past
        (stay_of past w.fid.fileset).server) (stay_of past w.fid.fileset).moves (Done d) t c) (fids d.bring.fid fid
        (ap (λ (x : Bring). x.fid) is ∙ f)) in
        subst (λ (x : Bring). x.stamp < stamp) is (ltb-true d.bring.stamp stamp p)

-- tokens that a Revoke names
unfoldable pub recalled_by : List Step → Message → Body → List TokenId
recalled_by past m (Revoke r) = if is_about past m r.fid.fileset then r.ids else []
recalled_by past m _ = []

unfoldable pub recalled : List Step → Cause → List TokenId
recalled past cause = by_message [] (λ m. recalled_by past m m.body) cause

recalled_of : (past : List Step) (s : Step) (id : TokenId) (m : Message) (b : Body) → s.cause ≡ Came m → m.body ≡ b
    → In id (recalled_by past m b) → (r : RevokeOf) × About past s r.fid.fileset (Revoke r) × In id r.ids
unfolding said is_about is_present learnt_by learnt known is_known drops_it held holds_id ever returned_by returned
    given gives_it leaves_it owned made none_open is_waited waits is_first fetched_by granted_by answered asking is_at
    changed_by settles_it settled_by settled changing welcomed_by welcomed welcomes is_welcome kept_by kept_now
    has_kept floor_by renews is_above recalled_by recalled
recalled_of past s id m (Revoke r) c is i =
    let p = if_in (is_about past m r.fid.fileset) id r.ids i in (
      r,
      about past s m r.fid.fileset
          (Revoke r) c is p.0,
      p.1,
    )
recalled_of past s id m b c is i = elim i [ ]

recalled_from : (past : List Step) (s : Step) (id : TokenId) (cause : Cause) → s.cause ≡ cause → In id
    (recalled past cause)
    → (r : RevokeOf) × About past s r.fid.fileset (Revoke r) × In id r.ids
unfolding said is_about is_present learnt_by learnt known is_known drops_it held holds_id ever returned_by returned
    given gives_it leaves_it owned made none_open is_waited waits is_first fetched_by granted_by answered asking is_at
    changed_by settles_it settled_by settled changing welcomed_by welcomed welcomes is_welcome kept_by kept_now
    has_kept floor_by renews is_above recalled_by recalled
recalled_from past s id (Came m) c i = recalled_of past s id m m.body c refl i
recalled_from past s id cause c i = elim i [ ]

pub is_recalled : (past : List Step) (s : Step) (id : TokenId) → list_any (same_id id) (recalled past s.cause) ≡ true
    → (r : RevokeOf) × About past s r.fid.fileset (Revoke r) × In id r.ids
unfolding said is_about is_present learnt_by learnt known is_known drops_it held holds_id ever returned_by returned
    given gives_it leaves_it owned made none_open is_waited waits is_first fetched_by granted_by answered asking is_at
    changed_by settles_it settled_by settled changing welcomed_by welcomed welcomes is_welcome kept_by kept_now
    has_kept floor_by renews is_above recalled_by recalled
is_recalled past s id e =
    let p = some_in (same_id id) (recalled past s.cause) e in
    recalled_from past s id s.cause refl (subst (λ x. In x (recalled past s.cause)) (sym (id_is id p.0 p.2)) p.1)

pub recalled_in : (past : List Step) (s : Step) (r : RevokeOf) (id : TokenId) → About past s r.fid.fileset (Revoke r)
    → In id r.ids → In id (recalled past s.cause)
unfolding said is_about is_present learnt_by learnt known is_known drops_it held holds_id ever returned_by returned
    given gives_it leaves_it owned made none_open is_waited waits is_first fetched_by granted_by answered asking is_at
    changed_by settles_it settled_by settled changing welcomed_by welcomed welcomes is_welcome kept_by kept_now
    has_kept floor_by renews is_above recalled_by recalled
recalled_in past s r id c i =
    subst (λ x. In id (recalled past x)) (sym (about_cause past s r.fid.fileset (Revoke r) c))
    (in_if (is_about past (about_is past s r.fid.fileset (Revoke r) c) r.fid.fileset) id r.ids
    (is_about_it past c.0 r.fid.fileset (Revoke r)) i)

-- what a step uses of what comes
unfoldable pub brought_by : Body → List Bring
brought_by (Grant g) = g.bring ∷ []
brought_by (Done d) = if list_all (λ t. is_use_kind t.kind) d.bring.tokens then d.bring ∷ [] else []
brought_by _ = []

unfoldable pub uses_by : List Step → Message → Body → Bool
uses_by past m (Grant g) =
    is_about past m g.bring.fid.fileset
    && (list_any (same_number (numbered g.bring.fid.fileset g.bring.number)) (asking past)
    && (is_above past g.bring.fid g.bring.stamp && none_open past g.bring.fid))
uses_by past m (Done d) =
    is_about past m d.bring.fid.fileset
    && (list_any (same_number (numbered d.fileset d.bring.number)) (changing
    (stay_of past d.bring.fid.fileset).server past)
    && (list_all (λ t. is_use_kind t.kind) d.bring.tokens
    && (is_above past d.bring.fid d.bring.stamp && none_open past d.bring.fid)))
uses_by past m _ = false

asked_yes : (past : List Step) (n : AppliedGive) → list_any (same_number n) (asking past) ≡ true
    → Asking past n.fileset n.number
unfolding said is_about is_present learnt_by learnt known is_known drops_it held holds_id ever returned_by returned
    given gives_it leaves_it owned made none_open is_waited waits is_first fetched_by granted_by answered asking is_at
    changed_by settles_it settled_by settled changing welcomed_by welcomed welcomes is_welcome kept_by kept_now
    has_kept floor_by renews is_above recalled_by recalled brought_by uses_by
asked_yes past n e =
    let p = some_in (same_number n) (asking past) e in
    in_asking past n.fileset n.number (subst (λ x. In x (asking past)) (sym (number_is n p.0 p.2)) p.1)

changed_yes : (past : List Step) (v : ServerId) (n : AppliedGive) → list_any (same_number n) (changing v past) ≡ true
    → Changing past v n.fileset n.number
unfolding said is_about is_present learnt_by learnt known is_known drops_it held holds_id ever returned_by returned
    given gives_it leaves_it owned made none_open is_waited waits is_first fetched_by granted_by answered asking is_at
    changed_by settles_it settled_by settled changing welcomed_by welcomed welcomes is_welcome kept_by kept_now
    has_kept floor_by renews is_above recalled_by recalled brought_by uses_by
changed_yes past v n e =
    let p = some_in (same_number n) (changing v past) e in
    in_changing past v n.fileset n.number (subst (λ x. In x (changing v past)) (sym (number_is n p.0 p.2)) p.1)

uses_of : (past : List Step) (s : Step) (m : Message) (b : Body) → s.cause ≡ Came m → m.body ≡ b
    → uses_by past m b ≡ true
    → (w : Bring) → In w (brought_by b) → Uses past s w
unfolding said is_about is_present learnt_by learnt known is_known drops_it held holds_id ever returned_by returned
    given gives_it leaves_it owned made none_open is_waited waits is_first fetched_by granted_by answered asking is_at
    changed_by settles_it settled_by settled changing welcomed_by welcomed welcomes is_welcome kept_by kept_now
    has_kept floor_by renews is_above recalled_by recalled brought_by uses_by
uses_of past s m (Grant g) c is e w (inl q) =
    let i = is_about past m g.bring.fid.fileset in
    let a = list_any (same_number (numbered g.bring.fid.fileset g.bring.number)) (asking past) in
    let p = and_parts i (a && (is_above past g.bring.fid g.bring.stamp && none_open past g.bring.fid)) e in
    let r = and_parts a (is_above past g.bring.fid g.bring.stamp && none_open past g.bring.fid) p.1 in
    let u = and_parts (is_above past g.bring.fid g.bring.stamp) (none_open past g.bring.fid) r.1 in
    subst (λ x. Uses past s x) (sym q) (
      inl (
        g,
        about past s m g.bring.fid.fileset (Grant g) c is p.0,
        refl,
        asked_yes past
            (numbered g.bring.fid.fileset g.bring.number) r.0,
      ),
      above_yes past g.bring.fid g.bring.stamp u.0,
      none_open_yes past g.bring.fid u.1,
    )
uses_of past s m (Grant g) c is e w (inr q) = elim q [ ]
uses_of past s m (Done d) c is e w q =
    let i = is_about past m d.bring.fid.fileset in
    let a = list_any (same_number (numbered d.fileset d.bring.number)) (changing
    (stay_of past d.bring.fid.fileset).server past) in
    let l = list_all (λ t. is_use_kind t.kind) d.bring.tokens in
    let f = is_above past d.bring.fid d.bring.stamp && none_open past d.bring.fid in
    let p = and_parts i (a && (l && f)) e in
    let r = and_parts a (l && f) p.1 in
    let k = and_parts l f r.1 in
    let u = and_parts (is_above past d.bring.fid d.bring.stamp) (none_open past d.bring.fid) k.1 in
    elim (if_in l w (d.bring ∷ []) q).1 [
      | inl same ↦ subst (λ x. Uses past s x) (sym same) (
        inr (
          d,
          about past s m d.bring.fid.fileset (Done d) c is p.0,
          refl,
          changed_yes past
              (stay_of past d.bring.fid.fileset).server (numbered d.fileset d.bring.number) r.0,
          λ t n. use_kind_yes t.kind (at_all (λ t. is_use_kind t.kind) d.bring.tokens t k.0 n),
        ),
        above_yes past d.bring.fid d.bring.stamp u.0,
        none_open_yes past d.bring.fid u.1,
      )
      | inr none ↦ elim none [ ]
    ]
uses_of past s m b c is e w q = absurd (cc)

-- the test that a step may take a token
unfoldable pub takes_by : List Step → Message → Token → Bool
takes_by past m t =
    uses_by past m m.body
    && list_any (λ w. list_any (same_token t) w.tokens && same_fid t.fid w.fid) (brought_by m.body)

unfoldable pub may_take : List Step → Cause → Token → Bool
may_take past cause t = by_message false (λ m. takes_by past m t) cause

take_of : (past : List Step) (s : Step) (t : Token) (cause : Cause) → s.cause ≡ cause → may_take past cause t ≡ true
    → (w : Bring) × Uses past s w × In t w.tokens × (t.fid ≡ w.fid)
unfolding said is_about is_present learnt_by learnt known is_known drops_it held holds_id ever returned_by returned
    given gives_it leaves_it owned made none_open is_waited waits is_first fetched_by granted_by answered asking is_at
    changed_by settles_it settled_by settled changing welcomed_by welcomed welcomes is_welcome kept_by kept_now
    has_kept floor_by renews is_above recalled_by recalled brought_by uses_by takes_by may_take
take_of past s t (Came m) c e =
    let p = and_parts (uses_by past m m.body) (list_any (λ w. list_any
    (same_token t) w.tokens && same_fid t.fid w.fid) (brought_by m.body)) e in
    let q = some_in (λ w. list_any (same_token t) w.tokens && same_fid t.fid w.fid) (brought_by m.body) p.1 in
    let w = q.0 in
    let r = and_parts (list_any (same_token t) w.tokens) (same_fid t.fid w.fid) q.2 in
    let k = some_in (same_token t) w.tokens r.0 in (
      w,
      uses_of past s m m.body c refl p.0 w q.1,
      subst (λ x. In x w.tokens) (sym
          (token_is t k.0 k.2)) k.1,
      fid_is t.fid w.fid r.1,
    )
take_of past s t cause c e = absurd (cc)

pub take_yes : (past : List Step) (s : Step) (t : Token) → may_take past s.cause t ≡ true
    → (w : Bring) × Uses past s w × In t w.tokens × (t.fid ≡ w.fid)
unfolding said is_about is_present learnt_by learnt known is_known drops_it held holds_id ever returned_by returned
    given gives_it leaves_it owned made none_open is_waited waits is_first fetched_by granted_by answered asking is_at
    changed_by settles_it settled_by settled changing welcomed_by welcomed welcomes is_welcome kept_by kept_now
    has_kept floor_by renews is_above recalled_by recalled brought_by uses_by takes_by may_take
take_yes past s t e = take_of past s t s.cause refl e

-- all that comes and answers something
unfoldable pub brought : Cause → List Bring
brought cause = by_message [] (λ m. brought_by m.body) cause

all_uses : (tokens : List Token) → ((t : Token) → In t tokens → IsUseKind t.kind)
    → list_all (λ t. is_use_kind t.kind) tokens ≡ true
all_uses [] uses = refl
all_uses (t ∷ tokens) uses =
    and_from (is_use_kind t.kind) (list_all (λ t. is_use_kind t.kind) tokens) (use_kind_is t.kind (uses t (inl refl)))
    (all_uses tokens (λ u n. uses u (inr n)))

pub used_in : (past : List Step) (s : Step) (w : Bring) → AnswersRequest past s w → In w (brought s.cause)
unfolding said is_about is_present learnt_by learnt known is_known drops_it held holds_id ever returned_by returned
    given gives_it leaves_it owned made none_open is_waited waits is_first fetched_by granted_by answered asking is_at
    changed_by settles_it settled_by settled changing welcomed_by welcomed welcomes is_welcome kept_by kept_now
    has_kept floor_by renews is_above recalled_by recalled brought_by uses_by takes_by may_take brought
used_in past s w (inl (g, c, is, a)) =
    subst (λ x. In w (brought x)) (sym (about_cause past s w.fid.fileset (Grant g) c)) (inl (sym is))
used_in past s w (inr (d, c, is, a, uses)) =
    subst (λ x. In w (brought x)) (sym (about_cause past s w.fid.fileset (Done d) c))
    (in_if (list_all (λ t. is_use_kind t.kind) d.bring.tokens) w (d.bring ∷ [])
    (all_uses d.bring.tokens (λ t n. uses t (subst (λ (b : Bring). In t b.tokens) is n))) (inl (sym is)))
