-- The rules of what a host sends again and which tokens it takes, computed.
use Rattle.run_examples.proofs.FetchWords.{asking_is, asking_yes, fetch_body, is_asking, is_fetch}
use Rattle.std.proofs.Common.{Bool, List, None, Option, Some, [], ap, false, inl, inr, refl, subst, sym}
use Rattle.std.proofs.Common.{true}
use Rattle.std.proofs.Common.{ℕ, ◌&&◌, ◌||◌, ◌==◌, ◌∙◌, ◌∷◌, ◌≡◌, ◌⊎◌}
use Rattle.std.proofs.lemmas.Bool.{and_parts, and_from, or_cases, or_left, or_right, eqb-true, ltb-true, lt-ltb}
use Rattle.std.specs.Prelude.{not, nat_lt}
use Rattle.std.specs.List.{list_all, list_any}
use Rattle.base_types.specs.declared.ids.ServerId.{ServerId}
use Rattle.token_types.specs.Conflicts.{same_id}
use Rattle.token_types.specs.declared.token.Token.{Token}
use Rattle.message_types.specs.declared.asking.Fetch.{Fetch as FetchOf}
use Rattle.message_types.specs.declared.giving.Give.{Give}
use Rattle.message_types.specs.declared.giving.Reclaim.{Reclaim as ReclaimOf}
use Rattle.message_types.specs.declared.giving.Reclaimed.{Reclaimed as ReclaimedOf}
use Rattle.message_types.specs.declared.message.Body.{Body}
use Rattle.message_types.specs.declared.message.Body.TheVariants.{Hello, Fetch, Change}
use Rattle.message_types.specs.declared.message.Body.TheVariants.{GiveBack}
use Rattle.message_types.specs.declared.message.Body.TheVariants.{Reclaim, Reclaimed, Restarted, Bye}
use Rattle.message_types.specs.declared.message.Message.{Message}
use Rattle.message_types.specs.declared.telling.Bring.{Bring}
use Rattle.run_rules.specs.HostDue.{IsNoGiveBack, IsUnanswered, RepeatsDue, SendsAgain}
use Rattle.run_rules.specs.Messages.{HasBye}
use Rattle.run_rules.specs.HostMay.{AwaitsReclaimed, ClaimsAt, HostResends, LearnsRestart}
use Rattle.run_rules.specs.HostTokens.{HostTakes}
use Rattle.run_rules.specs.Messages.{Comes, ComesIn, HasGreeted, HasSaid, Said, Sends, Stay, epoch_at, stay_of}
use Rattle.run_rules.specs.Past.{EachOnce, In}
use Rattle.run_rules.specs.Tokens.{number_of}
use Rattle.run_rules.specs.declared.step.Asked.{Asked}
use Rattle.run_rules.specs.declared.step.Cause.{Cause}
use Rattle.run_rules.specs.declared.step.Cause.TheVariants.{Message as Came, Lapse}
use Rattle.run_rules.specs.declared.step.Step.{Step}
use Rattle.run_examples.proofs.StanceChecks.{once_from}
use Rattle.run_examples.proofs.Tests.{AllTrue, passes, all_true, implies, so, is_not, not_is, at_all, some_in}
use Rattle.run_examples.proofs.Tests.{any_of, apart}
use Rattle.run_examples.proofs.Tests.{is_none, none_in, none_is, only_one, same_server, server_is, servers, same_give, give_is}
use Rattle.run_examples.proofs.Tests.{numbers, same_is, same_number}
use Rattle.run_examples.proofs.Tests.{id_is, ids}
use Rattle.run_examples.proofs.Words.{by_message, told, cause_is, at_comes, at_sends, at_said, said, said_in, in_said}
use Rattle.run_examples.proofs.Words.{made, made_in}
use Rattle.run_examples.proofs.Words.{in_made, is_first, first_yes, first_is, numbered, asking, asking_in, is_welcome}
use Rattle.run_examples.proofs.Words.{welcome_yes, changing}
use Rattle.run_examples.proofs.Words.{holds_id, holds_yes, brought, is_recalled, recalled, used_in}
use Rattle.run_examples.proofs.TokenChecks.{at_site, is_bye, is_place, place_is}
use Rattle.run_examples.proofs.LabelWords.{is_local}
use Rattle.run_examples.proofs.GiveChecks.{is_give, give_body}
use Rattle.run_examples.proofs.AnswerChecks.{no_asked}

unfoldable pub is_lapse : Cause → Bool
is_lapse Lapse = true
is_lapse _ = false

unfoldable pub is_hello : Body → Bool
is_hello Hello = true
is_hello _ = false

unfoldable pub is_reclaim : Body → Bool
is_reclaim (Reclaim claim) = true
is_reclaim _ = false

unfoldable pub is_restarted : Body → Bool
is_restarted Restarted = true
is_restarted _ = false

unfoldable pub is_answer : Body → Bool
is_answer (Reclaimed answer) = true
is_answer _ = false

pub bye_body : (b : Body) → is_bye b ≡ true → b ≡ Bye
unfolding is_lapse is_hello is_reclaim is_restarted is_answer is_bye is_local no_asked
bye_body Bye e = refl
bye_body b e = absurd (cc)

pub hello_body : (b : Body) → is_hello b ≡ true → b ≡ Hello
unfolding is_lapse is_hello is_reclaim is_restarted is_answer is_bye is_local no_asked
hello_body Hello e = refl
hello_body b e = absurd (cc)

pub restarted_body : (b : Body) → is_restarted b ≡ true → b ≡ Restarted
unfolding is_lapse is_hello is_reclaim is_restarted is_answer is_bye is_local no_asked
restarted_body Restarted e = refl
restarted_body b e = absurd (cc)

reclaim_body : (b : Body) → is_reclaim b ≡ true → (claim : ReclaimOf) × (b ≡ Reclaim claim)
unfolding is_lapse is_hello is_reclaim is_restarted is_answer is_bye is_local no_asked
reclaim_body (Reclaim claim) e = (claim, refl)
reclaim_body b e = absurd (cc)

-- a message for a server, of an epoch and with no moves
unfoldable pub goes_as : ServerId → ℕ → Message → Bool
goes_as v e m = same_server m.server v && ((m.epoch == e) && (m.moves == 0))

unfoldable pub sends_bye : Step → ServerId → ℕ → Bool
sends_bye s v e = list_any (λ m. goes_as v e m && is_bye m.body) s.sent

sends_bye_yes : (s : Step) (v : ServerId) (e : ℕ) → sends_bye s v e ≡ true → Sends s v e 0 Bye
unfolding is_lapse is_hello is_reclaim is_restarted is_answer goes_as sends_bye is_bye is_local no_asked
sends_bye_yes s v e t =
    let p = some_in (λ m. goes_as v e m && is_bye m.body) s.sent t in
    let q = and_parts (goes_as v e p.0) (is_bye p.0.body) p.2 in
    let r = and_parts (same_server p.0.server v) ((p.0.epoch == e) && (p.0.moves == 0)) q.0 in
    let u = and_parts (p.0.epoch == e) (p.0.moves == 0) r.1 in
    (p.0, p.1, server_is p.0.server v r.0, eqb-true p.0.epoch e u.0, eqb-true p.0.moves 0 u.1, bye_body p.0.body q.1)

-- the server has said Bye
unfoldable pub byes_at : ServerId → Cause → Bool
byes_at v cause = by_message false (λ m. is_bye m.body && same_server m.server v) cause

unfoldable pub has_bye : List Step → ServerId → Bool
has_bye [] v = false
has_bye (s ∷ past) v = byes_at v s.cause || has_bye past v

byes_is : (s : Step) (v : ServerId) (cause : Cause) → s.cause ≡ cause → byes_at v cause ≡ true → (e n : ℕ)
    × ComesIn s v e n Bye
unfolding is_lapse is_hello is_reclaim is_restarted is_answer goes_as sends_bye byes_at has_bye is_bye is_local no_asked
byes_is s v (Came m) c t =
    let p = and_parts (is_bye m.body) (same_server m.server v) t in
    (m.epoch, m.moves, (m, c, server_is m.server v p.1, refl, refl, bye_body m.body p.0))
byes_is s v cause c t = absurd (cc)

has_bye_yes : (past : List Step) (v : ServerId) → has_bye past v ≡ true → HasBye past v
unfolding is_lapse is_hello is_reclaim is_restarted is_answer goes_as sends_bye byes_at has_bye is_bye is_local no_asked
has_bye_yes [] v t = absurd (cc)
has_bye_yes (s ∷ past) v t =
    elim (or_cases (byes_at v s.cause) (has_bye past v) t) [
      | inl p ↦ inl (byes_is s v s.cause refl p)
      | inr p ↦ inr (has_bye_yes past v p)
    ]

has_bye_is : (past : List Step) (v : ServerId) → HasBye past v → has_bye past v ≡ true
unfolding is_lapse is_hello is_reclaim is_restarted is_answer goes_as sends_bye byes_at has_bye is_bye is_local no_asked
has_bye_is [] v x = elim x [ ]
has_bye_is (s ∷ past) v (inl (e, n, c)) =
    or_left (byes_at v s.cause) (has_bye past v)
    (subst (λ x. byes_at v x ≡ true) (sym (cause_is s v e n Bye c)) (and_from true (same_server v v) refl
    (servers v v refl)))
has_bye_is (s ∷ past) v (inr x) = or_right (byes_at v s.cause) (has_bye past v) (has_bye_is past v x)

-- the claim waits
unfoldable pub claims_at : Step → ServerId → Bool
claims_at s v = list_any (λ m. is_reclaim m.body && same_server m.server v) s.sent

claims_at_yes : (s : Step) (v : ServerId) → claims_at s v ≡ true → ClaimsAt s v
unfolding is_lapse is_hello is_reclaim is_restarted is_answer goes_as sends_bye byes_at has_bye claims_at is_bye
    is_local no_asked
claims_at_yes s v t =
    let p = some_in (λ m. is_reclaim m.body && same_server m.server v) s.sent t in
    let q = and_parts (is_reclaim p.0.body) (same_server p.0.server v) p.2 in
    let r = reclaim_body p.0.body q.0 in
    (p.0.epoch, p.0.moves, r.0, (p.0, p.1, server_is p.0.server v q.1, refl, refl, r.1))

claims_at_is : (s : Step) (v : ServerId) → ClaimsAt s v → claims_at s v ≡ true
unfolding is_lapse is_hello is_reclaim is_restarted is_answer goes_as sends_bye byes_at has_bye claims_at is_bye
    is_local no_asked
claims_at_is s v (e, n, claim, p) =
    any_of (λ m. is_reclaim m.body && same_server m.server v) s.sent p.0 p.1
    (and_from (is_reclaim p.0.body) (same_server p.0.server v) (subst (λ b. is_reclaim b ≡ true) (sym p.5) refl)
    (servers p.0.server v p.2))

unfoldable pub raises_at : List Step → Step → ServerId → Bool
raises_at past s v = nat_lt (epoch_at past v) (epoch_at (s ∷ past) v)

unfoldable pub answers_at : List Step → ServerId → Cause → Bool
answers_at past v cause =
    by_message false (λ m. is_answer m.body && (same_server m.server v && ((m.epoch == epoch_at past v) &&
    (m.moves == 0)))) cause

unfoldable pub has_claim : List Step → ServerId → Bool
has_claim [] v = false
has_claim (s ∷ past) v =
    (claims_at s v || (has_claim past v && not (raises_at past s v))) && not (answers_at past v s.cause)

answers_is : (past : List Step) (s : Step) (v : ServerId) (cause : Cause) → s.cause ≡ cause
    → answers_at past v cause ≡ true
    → (answer : ReclaimedOf) × Comes past s v (Reclaimed answer)
unfolding is_lapse is_hello is_reclaim is_restarted is_answer goes_as sends_bye byes_at has_bye claims_at raises_at
    answers_at has_claim is_bye is_local no_asked
answers_is past s v (Came m) c t = go m.body refl
  where
    p : (is_answer m.body ≡ true) × ((same_server m.server v && ((m.epoch == epoch_at past v) &&
        (m.moves == 0))) ≡ true)
    p = and_parts (is_answer m.body) (same_server m.server v && ((m.epoch == epoch_at past v) && (m.moves == 0))) t

    go : (b : Body) → m.body ≡ b → (answer : ReclaimedOf) × Comes past s v (Reclaimed answer)
    go (Reclaimed answer) is =
        let q = and_parts (same_server m.server v) ((m.epoch == epoch_at past v) && (m.moves == 0)) p.1 in
        let r = and_parts (m.epoch == epoch_at past v) (m.moves == 0) q.1 in
        (answer, (m, c, server_is m.server v q.0, eqb-true m.epoch (epoch_at past v) r.0, eqb-true m.moves 0 r.1, is))
    go b is = absurd (let q = subst (λ x. is_answer x ≡ true) is p.0 in cc)
answers_is past s v cause c t = absurd (cc)

answers_come : (past : List Step) (s : Step) (v : ServerId) (answer : ReclaimedOf) → Comes past s v (Reclaimed answer)
    → answers_at past v s.cause ≡ true
unfolding is_lapse is_hello is_reclaim is_restarted is_answer goes_as sends_bye byes_at has_bye claims_at raises_at
    answers_at has_claim is_bye is_local no_asked
answers_come past s v answer c =
    subst (λ x. answers_at past v x ≡ true) (sym (cause_is s v (epoch_at past v) 0 (Reclaimed answer) c))
    (and_from true (same_server v v && ((epoch_at past v == epoch_at past v) && (0 == 0))) refl
    (and_from (same_server v v) ((epoch_at past v == epoch_at past v) && (0 == 0)) (servers v v refl)
    (and_from (epoch_at past v == epoch_at past v) (0 == 0) (same_is (epoch_at past v)) refl)))

claimed_yes : (past : List Step) (v : ServerId) → has_claim past v ≡ true → AwaitsReclaimed past v
unfolding is_lapse is_hello is_reclaim is_restarted is_answer goes_as sends_bye byes_at has_bye claims_at raises_at
    answers_at has_claim is_bye is_local no_asked
claimed_yes [] v t = absurd (cc)
claimed_yes (s ∷ past) v t =
    let p = and_parts (claims_at s v || (has_claim past v && not (raises_at past s v))) (not
    (answers_at past v s.cause)) t in (
      elim (or_cases (claims_at s v) (has_claim past v && not (raises_at past s v)) p.0) [
        | inl x ↦ inl (claims_at_yes s v x)
        | inr x ↦ (
            let q = and_parts (has_claim past v) (not (raises_at past s v)) x in
            inr (
              claimed_yes past v q.0,
              λ r. is_not (raises_at past s v) q.1 (lt-ltb (epoch_at past v) (epoch_at (s
                  ∷ past) v) r),
            )
            )
      ],
      λ answer c. is_not (answers_at past v s.cause) p.1 (answers_come past s v answer c),
    )

claimed_is : (past : List Step) (v : ServerId) → AwaitsReclaimed past v → has_claim past v ≡ true
unfolding is_lapse is_hello is_reclaim is_restarted is_answer goes_as sends_bye byes_at has_bye claims_at raises_at
    answers_at has_claim is_bye is_local no_asked
claimed_is [] v x = elim x [ ]
claimed_is (s ∷ past) v (from, unless) =
    and_from (claims_at s v || (has_claim past v && not (raises_at past s v))) (not (answers_at past v s.cause))
    (elim from [
      | inl x ↦ or_left (claims_at s v) (has_claim past v && not (raises_at past s v)) (claims_at_is s v x)
      | inr x ↦ or_right (claims_at s v) (has_claim past v && not (raises_at past s v))
          (and_from (has_claim past v) (not (raises_at past s v)) (claimed_is past v x.0)
          (not_is (raises_at past s v) (λ e. x.1 (ltb-true (epoch_at past v) (epoch_at (s ∷ past) v) e))))
    ])
    (not_is (answers_at past v s.cause) (λ e. let p = answers_is past s v s.cause refl e in unless p.0 p.1))

was_claimed : (past : List Step) (v : ServerId) → AwaitsReclaimed past v → (m : Message) × In m (said past) ×
    (is_reclaim m.body ≡ true) × (m.server ≡ v)
unfolding is_lapse is_hello is_reclaim is_restarted is_answer goes_as sends_bye byes_at has_bye claims_at raises_at
    answers_at has_claim is_bye is_local no_asked
was_claimed [] v x = elim x [ ]
was_claimed (s ∷ past) v (inl (e, n, claim, p), unless) =
    let q = said_in (s ∷ past) v e n (Reclaim claim) (inl p) in
    (q.0, q.1, subst (λ b. is_reclaim b ≡ true) (sym q.5) refl, q.2)
was_claimed (s ∷ past) v (inr x, unless) =
    let q = was_claimed past v x.0 in
    let r = in_said past q.0 q.1 in
    let k = said_in (s ∷ past) q.0.server q.0.epoch q.0.moves q.0.body (inr r) in
    (k.0, k.1, subst (λ b. is_reclaim b ≡ true) (sym k.5) q.2, k.2 ∙ q.3)

-- sends the give-back in an epoch, to where it goes
unfoldable pub gives_as : List Step → Step → Give → ℕ → Bool
gives_as past s g e =
    list_any (λ m. is_place past g.fid.fileset m && ((m.epoch == e) && is_give g m.body)) s.sent

gives_as_yes : (past : List Step) (s : Step) (g : Give) (e : ℕ) (v : ServerId) (n : ℕ) → gives_as past s g e ≡ true
    → stay_of past g.fid.fileset ≡ record { server = v; moves = n } → Sends s v e n (GiveBack g)
unfolding is_lapse is_hello is_reclaim is_restarted is_answer goes_as sends_bye byes_at has_bye claims_at raises_at
    answers_at has_claim gives_as is_bye is_local no_asked
gives_as_yes past s g e v n t at =
    let p = some_in (λ m. is_place past g.fid.fileset m && ((m.epoch == e) && is_give g m.body)) s.sent t in
    let q = and_parts (is_place past g.fid.fileset p.0) ((p.0.epoch == e) && is_give g p.0.body) p.2 in
    let r = and_parts (p.0.epoch == e) (is_give g p.0.body) q.1 in
    let w = sym (place_is past g.fid.fileset p.0 q.0) ∙ at in (
      p.0,
      p.1,
      ap (λ (x : Stay). x.server) w,
      eqb-true p.0.epoch e r.0,
      ap (λ
          (x : Stay). x.moves) w,
      give_body g p.0.body r.1,
    )

-- sends the Fetch again, to where it goes
unfoldable pub fetches_as : List Step → Step → FetchOf → Bool
fetches_as past s f =
    list_any (λ m. is_place past f.fid.fileset m && ((m.epoch == epoch_at past m.server) && is_fetch f m.body)) s.sent

fetches_as_yes : (past : List Step) (s : Step) (f : FetchOf) (v : ServerId) (n : ℕ) → fetches_as past s f ≡ true
    → stay_of past f.fid.fileset ≡ record { server = v; moves = n } → Sends s v (epoch_at past v) n (Fetch f)
unfolding fetches_as
fetches_as_yes past s f v n t at =
    let p = some_in (λ m. is_place past f.fid.fileset m && ((m.epoch == epoch_at past m.server) && is_fetch f m.body))
    s.sent t in
    let q = and_parts (is_place past f.fid.fileset p.0) ((p.0.epoch == epoch_at past p.0.server) && is_fetch f p.0.body)
    p.2 in
    let r = and_parts (p.0.epoch == epoch_at past p.0.server) (is_fetch f p.0.body) q.1 in
    let w = sym (place_is past f.fid.fileset p.0 q.0) ∙ at in
    let v_is : p.0.server ≡ v = ap (λ (x : Stay). x.server) w in (
      p.0,
      p.1,
      v_is,
      eqb-true p.0.epoch (epoch_at past p.0.server) r.0 ∙ ap (epoch_at past) v_is,
      ap (λ (x : Stay). x.moves) w,
      fetch_body f p.0.body r.1,
    )

unfoldable pub fetch_late : List Step → Step → Body → Bool
fetch_late past s (Fetch f) = implies (is_asking past f) (fetches_as past s f)
fetch_late past s _ = true

unfoldable pub greets_welcome : List Step → Message → Bool
greets_welcome past m = implies (is_hello m.body) (is_welcome past m.server)

unfoldable pub gives_late : List Step → Step → Give → Bool
gives_late past s g = implies (is_first past g) (gives_as past s g (epoch_at past (stay_of past g.fid.fileset).server))

unfoldable pub byes_late : List Step → Step → Message → Bool
byes_late past s m = implies (is_bye m.body) (has_bye past m.server || sends_bye s m.server (epoch_at past m.server))

unfoldable pub claims_late : List Step → Step → Message → Bool
claims_late past s m = implies (is_reclaim m.body) (implies (has_claim past m.server) (claims_at s m.server))

unfoldable pub late_right : List Step → Message → Body → Bool
late_right past m (GiveBack g) =
    list_any (same_give g) (made past) && (is_first past g && is_place past g.fid.fileset m)
late_right past m Bye =
    list_any (λ k. is_bye k.body && same_server k.server m.server) (said past) && (not (has_bye past m.server) &&
    (m.moves == 0))
late_right past m (Reclaim claim) = has_claim past m.server
late_right past m (Fetch f) =
    list_any (λ k. is_fetch f k.body) (said past) && (is_asking past f && is_place past f.fid.fileset m)
late_right past m _ = false

unfoldable pub lapse_tests : ServerId → List Step → Step → List Bool
lapse_tests site past s =
    list_all (greets_welcome past) (said past)
    ∷ list_all (λ m. fetch_late past s m.body) (said past)
    ∷ is_none (changing site past)
    ∷ list_all (gives_late past s) (made past)
    ∷ list_all (byes_late past s) (said past)
    ∷ list_all (claims_late past s) (said past)
    ∷ list_all (λ m. late_right past m m.body) s.sent
    ∷ no_asked s.asked ∷ is_none s.answers ∷ is_none s.taken ∷ is_none s.dropped ∷ is_none s.made
    ∷ []

-- what a step does by a restart
unfoldable pub greeted : List Step → ServerId → Bool
greeted past v = list_any (λ m. is_hello m.body && same_server m.server v) (said past)

unfoldable pub learns_restart : List Step → Step → ServerId → Bool
learns_restart past s v =
    (greeted past v && raises_at past s v) && by_message false
    (λ m. is_restarted m.body && same_server m.server v) s.cause

unfoldable pub gives_restarted : List Step → Step → ServerId → Give → Bool
gives_restarted past s v g = implies (is_first past g) (gives_as past s g (epoch_at (s ∷ past) v))

unfoldable pub restart_right : List Step → Step → Message → Bool
restart_right past s m =
    implies (learns_restart past s m.server) (claims_at s m.server && list_all (gives_restarted past s m.server)
    (made past))

unfoldable pub claims_only : List Step → Step → Message → Bool
claims_only past s m =
    implies (is_reclaim m.body)
    (learns_restart past s m.server || (is_lapse s.cause && has_claim past m.server))

unfoldable pub answered_all : ServerId → List Step → Step → Message → Bool
answered_all site past s m =
    implies (is_answer m.body)
    (list_all (greets_welcome (s ∷ past)) (said (s ∷ past))
    && ((is_none (asking past) && is_none (changing site past)) && list_all (λ m. not (is_bye m.body)) (said past)))

-- the message is outstanding; and it may be sent again
abbrev pub said_bye : List Step → ServerId → Bool
said_bye past v = list_any (λ k. is_bye k.body && same_server k.server v) (said past)

abbrev pub is_again : ServerId → List Step → Message → Body → Bool
is_again site past m Hello = greeted past m.server
is_again site past m (Fetch f) = is_asking past f
is_again site past m (Change c) = list_any (same_number (numbered c.fileset c.number)) (changing site past)
is_again site past m (GiveBack g) =
    list_any (λ k. same_number (number_of k) (number_of g)) (made past) && is_first past g
is_again site past m Bye = said_bye past m.server
is_again site past m _ = false

abbrev pub may_again : List Step → Step → Message → Body → Bool
may_again past s m (GiveBack g) =
    learns_restart past s m.server || list_any (λ i. list_any (same_id i) g.ids) (recalled past s.cause)
may_again past s m _ = answers_at past m.server s.cause

abbrev pub again_right : ServerId → List Step → Step → Message → Body → Bool
again_right site past s m b = not (is_again site past m b) || (is_lapse s.cause || may_again past s m b)

abbrev pub bye_once : List Step → Message → Bool
bye_once past m = implies (is_bye m.body) (not (has_bye past m.server && said_bye past m.server))

-- a give-back is outstanding
abbrev pub gives_out : List Step → Body → Bool
gives_out past (GiveBack g) = list_any (same_give g) (made past) && is_first past g
gives_out past _ = true

unfoldable pub resend_tests : ServerId → List Step → Step → List Bool
resend_tests site past s =
    implies (is_lapse s.cause) (passes (lapse_tests site past s))
    ∷ by_message true (restart_right past s) s.cause
    ∷ list_all (claims_only past s) s.sent
    ∷ by_message true (answered_all site past s) s.cause
    ∷ is_local site past
    ∷ list_all (λ m. again_right site past s m m.body) s.sent
    ∷ list_all (bye_once past) s.sent
    ∷ list_all (λ m. gives_out (s ∷ past) m.body) s.sent
    ∷ []

pub not_asked : (o : Option Asked) → no_asked o ≡ true → o ≡ None
unfolding is_lapse is_hello is_reclaim is_restarted is_answer goes_as sends_bye byes_at has_bye claims_at raises_at
    answers_at has_claim gives_as fetch_late greets_welcome gives_late byes_late claims_late late_right lapse_tests greeted
    learns_restart gives_restarted restart_right claims_only answered_all resend_tests is_bye is_local no_asked
not_asked None e = refl
not_asked (Some c) e = absurd (cc)

greets_is : (past now : List Step) (v : ServerId) → list_all (greets_welcome now) (said past) ≡ true
    → HasGreeted past v → is_welcome now v ≡ true
unfolding is_lapse is_hello is_reclaim is_restarted is_answer goes_as sends_bye byes_at has_bye claims_at raises_at
    answers_at has_claim gives_as fetch_late greets_welcome gives_late byes_late claims_late late_right lapse_tests greeted
    learns_restart gives_restarted restart_right claims_only answered_all resend_tests is_bye is_local no_asked
greets_is past now v t (e, n, h) =
    let p = at_said (greets_welcome now) past v e n Hello t h in p.1

learns_is : (past : List Step) (s : Step) (v : ServerId) → LearnsRestart past s v → learns_restart past s v ≡ true
unfolding is_lapse is_hello is_reclaim is_restarted is_answer goes_as sends_bye byes_at has_bye claims_at raises_at
    answers_at has_claim gives_as fetch_late greets_welcome gives_late byes_late claims_late late_right lapse_tests greeted
    learns_restart gives_restarted restart_right claims_only answered_all resend_tests is_bye is_local no_asked
learns_is past s v (g, r, (e, n, c)) =
    let h = said_in past v g.0 g.1 Hello g.2 in
    and_from (greeted past v && raises_at past s v) (by_message false
    (λ m. is_restarted m.body && same_server m.server v) s.cause)
    (and_from (greeted past v) (raises_at past s v)
    (any_of (λ m. is_hello m.body && same_server m.server v) (said past) h.0 h.1
    (and_from (is_hello h.0.body) (same_server h.0.server v) (subst (λ b. is_hello b ≡ true) (sym h.5) refl)
    (servers h.0.server v h.2)))
    (lt-ltb (epoch_at past v) (epoch_at (s ∷ past) v) r))
    (subst (λ x. by_message false (λ m. is_restarted m.body && same_server m.server v) x ≡ true) (sym
    (cause_is s v e n Restarted c)) (and_from true (same_server v v) refl (servers v v refl)))

restart_comes : (s : Step) (v : ServerId) (cause : Cause) → s.cause ≡ cause
    → by_message false (λ m. is_restarted m.body && same_server m.server v) cause ≡ true → (e n : ℕ)
    × ComesIn s v e n Restarted
unfolding is_lapse is_hello is_reclaim is_restarted is_answer goes_as sends_bye byes_at has_bye claims_at raises_at
    answers_at has_claim gives_as fetch_late greets_welcome gives_late byes_late claims_late late_right lapse_tests greeted
    learns_restart gives_restarted restart_right claims_only answered_all resend_tests is_bye is_local no_asked
restart_comes s v (Came m) c t =
    let p = and_parts (is_restarted m.body) (same_server m.server v) t in
    (m.epoch, m.moves, (m, c, server_is m.server v p.1, refl, refl, restarted_body m.body p.0))
restart_comes s v cause c t = absurd (cc)

learns_yes : (past : List Step) (s : Step) (v : ServerId) → learns_restart past s v ≡ true → LearnsRestart past s v
unfolding is_lapse is_hello is_reclaim is_restarted is_answer goes_as sends_bye byes_at has_bye claims_at raises_at
    answers_at has_claim gives_as fetch_late greets_welcome gives_late byes_late claims_late late_right lapse_tests greeted
    learns_restart gives_restarted restart_right claims_only answered_all resend_tests is_bye is_local no_asked
learns_yes past s v t =
    let p = and_parts (greeted past v && raises_at past s v) (by_message false
    (λ m. is_restarted m.body && same_server m.server v) s.cause) t in
    let q = and_parts (greeted past v) (raises_at past s v) p.0 in
    let h = some_in (λ m. is_hello m.body && same_server m.server v) (said past) q.0 in
    let k = and_parts (is_hello h.0.body) (same_server h.0.server v) h.2 in
    let said_it = in_said past h.0 h.1 in (
      (
        h.0.epoch,
        h.0.moves,
        subst (λ (x : ServerId). Said past x h.0.epoch h.0.moves Hello)
            (server_is h.0.server v k.1) (subst (λ b. Said past h.0.server h.0.epoch h.0.moves b)
            (hello_body h.0.body k.0) said_it),
      ),
      ltb-true (epoch_at past v) (epoch_at (s ∷ past) v) q.1,
      restart_comes s v s.cause refl p.1,
    )

lapse_is : (s : Step) (site : ServerId) (past : List Step) → implies (is_lapse s.cause) (passes
    (lapse_tests site past s)) ≡ true
    → s.cause ≡ Lapse → AllTrue (lapse_tests site past s)
unfolding is_lapse is_hello is_reclaim is_restarted is_answer goes_as sends_bye byes_at has_bye claims_at raises_at
    answers_at has_claim gives_as fetch_late greets_welcome gives_late byes_late claims_late late_right lapse_tests greeted
    learns_restart gives_restarted restart_right claims_only answered_all resend_tests is_bye is_local no_asked
lapse_is s site past t c =
    all_true (lapse_tests site past s) (so (is_lapse s.cause) (passes (lapse_tests site past s)) t (subst
    (λ x. is_lapse x ≡ true) (sym c) refl))

pub lapse_cause : (c : Cause) → is_lapse c ≡ true → c ≡ Lapse
unfolding is_lapse is_hello is_reclaim is_restarted is_answer goes_as sends_bye byes_at has_bye claims_at raises_at
    answers_at has_claim gives_as fetch_late greets_welcome gives_late byes_late claims_late late_right lapse_tests greeted
    learns_restart gives_restarted restart_right claims_only answered_all resend_tests is_bye is_local no_asked
lapse_cause Lapse e = refl
lapse_cause c e = absurd (cc)

all_late : (site : ServerId) (past : List Step) (s : Step) → is_local site past ≡ true → AllTrue
    (lapse_tests site past s)
    → (v : ServerId) (n : ℕ) (b : Body) → IsUnanswered past v n b → Sends s v (epoch_at past v) n b
unfolding is_lapse is_hello is_reclaim is_restarted is_answer goes_as sends_bye byes_at has_bye claims_at raises_at
    answers_at has_claim gives_as fetch_late greets_welcome gives_late byes_late claims_late late_right lapse_tests greeted
    learns_restart gives_restarted restart_right claims_only answered_all resend_tests is_bye is_local no_asked
all_late site past s local t v n Hello (g, w, z) = absurd (is_not (is_welcome past v) (not_is (is_welcome past v)
    (λ e. w (welcome_yes past v e))) (greets_is past past v t.0 g))
all_late site past s local t v n (Fetch f) ((w, d, k, h), a, at) =
    let p = at_said (λ m. fetch_late past s m.body) past w d k (Fetch f) t.1.0 h in
    fetches_as_yes past s f v n (so (is_asking past f) (fetches_as past s f) p.1 (asking_is past f a)) at
all_late site past s local t v n (Change c) (h, a, at) = absurd (none_in (changing site past)
    (numbered c.fileset c.number) t.1.1.0 (at_site site past v c.fileset c.number local a))
all_late site past s local t v n (GiveBack g) (o, at) =
    gives_as_yes past s g (epoch_at past v) v n
    (subst (λ x. gives_as past s g (epoch_at past x) ≡ true) (ap (λ (x : Stay). x.server) at)
    (so (is_first past g) (gives_as past s g (epoch_at past (stay_of past g.fid.fileset).server)) (at_all
    (gives_late past s) (made past) g t.1.1.1.0 (made_in past g o.made)) (first_is past g o))) at
all_late site past s local t v n Bye ((e, k, h), none_, z) =
    let p = at_said (byes_late past s) past v e k Bye t.1.1.1.1.0 h in
    let q : (has_bye past v || sends_bye s v (epoch_at past v)) ≡ true = p.1 in
    elim (or_cases (has_bye past v) (sends_bye s v (epoch_at past v)) q) [
      | inl x ↦ absurd (none_ (has_bye_yes past v x))
      | inr x ↦ subst (λ m. Sends s v (epoch_at past v) m Bye) (sym z) (sends_bye_yes s v (epoch_at past v) x)
    ]
all_late site past s local t v n b x = elim x [ ]

late_is : (past : List Step) (s : Step) (m : Message) (b : Body) → m.body ≡ b → late_right past m b ≡ true
    → IsUnanswered past m.server m.moves b ⊎ (AwaitsReclaimed past m.server × ((claim : ReclaimOf) × (b ≡ Reclaim claim)))
unfolding is_lapse is_hello is_reclaim is_restarted is_answer goes_as sends_bye byes_at has_bye claims_at raises_at
    answers_at has_claim gives_as fetch_late greets_welcome gives_late byes_late claims_late late_right lapse_tests greeted
    learns_restart gives_restarted restart_right claims_only answered_all resend_tests is_bye is_local no_asked
late_is past s m (GiveBack g) is t =
    let p = and_parts (list_any (same_give g) (made past)) (is_first past g && is_place past g.fid.fileset m) t in
    let q = and_parts (is_first past g) (is_place past g.fid.fileset m) p.1 in
    let k = some_in (same_give g) (made past) p.0 in
    inl (
      first_yes past g (in_made past g (subst (λ x. In x (made past)) (sym
          (give_is g k.0 k.2)) k.1)) q.0,
      place_is past g.fid.fileset m q.1,
    )
late_is past s m Bye is t =
    let p = and_parts (list_any (λ k. is_bye k.body && same_server k.server m.server) (said past)) (not
    (has_bye past m.server) && (m.moves == 0)) t in
    let q = and_parts (not (has_bye past m.server)) (m.moves == 0) p.1 in
    let k = some_in (λ k. is_bye k.body && same_server k.server m.server) (said past) p.0 in
    let r = and_parts (is_bye k.0.body) (same_server k.0.server m.server) k.2 in
    let said_it = in_said past k.0 k.1 in
    inl (
      (
        k.0.epoch,
        k.0.moves,
        subst (λ (x : ServerId). Said past x k.0.epoch k.0.moves Bye)
            (server_is k.0.server m.server r.1) (subst (λ b. Said past k.0.server k.0.epoch k.0.moves b)
            (bye_body k.0.body r.0) said_it),
      ),
      λ x. is_not (has_bye past m.server) q.0 (has_bye_is past m.server x),
      eqb-true m.moves 0 q.1,
    )
late_is past s m (Reclaim claim) is t = inr (claimed_yes past m.server t, (claim, refl))
late_is past s m (Fetch f) is t =
    let p = and_parts (list_any (λ k. is_fetch f k.body) (said past)) (is_asking past f && is_place past f.fid.fileset m)
    t in
    let q = and_parts (is_asking past f) (is_place past f.fid.fileset m) p.1 in
    let k = some_in (λ (k : Message). is_fetch f k.body) (said past) p.0 in
    inl (
      (
        k.0.server,
        k.0.epoch,
        k.0.moves,
        subst (λ b. Said past k.0.server k.0.epoch k.0.moves b) (fetch_body f k.0.body k.2) (in_said past k.0 k.1),
      ),
      asking_yes past f q.0,
      place_is past f.fid.fileset m q.1,
    )
late_is past s m b is t = absurd (cc)

late_all : (site : ServerId) (past : List Step) (s : Step) → AllTrue (lapse_tests site past s) → (v : ServerId)
    → AwaitsReclaimed past v → ClaimsAt s v
unfolding is_lapse is_hello is_reclaim is_restarted is_answer goes_as sends_bye byes_at has_bye claims_at raises_at
    answers_at has_claim gives_as fetch_late greets_welcome gives_late byes_late claims_late late_right lapse_tests greeted
    learns_restart gives_restarted restart_right claims_only answered_all resend_tests is_bye is_local no_asked
late_all site past s t v c =
    let p = was_claimed past v c in
    let q = at_all (claims_late past s) (said past) p.0 t.1.1.1.1.1.0 p.1 in
    let r = so (is_reclaim p.0.body) (implies (has_claim past p.0.server) (claims_at s p.0.server)) q p.2 in
    let u = so (has_claim past p.0.server) (claims_at s p.0.server) r (subst (λ
    (x : ServerId). has_claim past x ≡ true) (sym p.3) (claimed_is past v c)) in
    subst (λ (x : ServerId). ClaimsAt s x) p.3 (claims_at_yes s p.0.server u)

others : (site : ServerId) (past : List Step) (s : Step) → is_local site past ≡ true → by_message true
    (answered_all site past s) s.cause ≡ true
    → (v : ServerId) (n : ℕ) (answer : ReclaimedOf) (b : Body) → Comes past s v (Reclaimed answer) → IsNoGiveBack b
    → IsUnanswered past v n b → IsUnanswered (s ∷ past) v n b → ⊥
unfolding is_lapse is_hello is_reclaim is_restarted is_answer goes_as sends_bye byes_at has_bye claims_at raises_at
    answers_at has_claim gives_as fetch_late greets_welcome gives_late byes_late claims_late late_right lapse_tests greeted
    learns_restart gives_restarted restart_right claims_only answered_all resend_tests is_bye is_local no_asked
others site past s local t v n answer b c is out now = go b is out now
  where
    a : (list_all (greets_welcome (s ∷ past)) (said (s ∷ past)) && ((is_none (asking past) && is_none
        (changing site past)) && list_all (λ m. not (is_bye m.body)) (said past))) ≡ true
    a = at_comes (answered_all site past s) s v (epoch_at past v) 0 (Reclaimed answer) t c

    p : (list_all (greets_welcome (s ∷ past)) (said (s ∷ past)) ≡ true) × (((is_none (asking past) && is_none
        (changing site past)) && list_all (λ m. not (is_bye m.body)) (said past)) ≡ true)
    p = and_parts (list_all (greets_welcome (s ∷ past)) (said (s ∷ past))) ((is_none (asking past) && is_none
        (changing site past)) && list_all (λ m. not (is_bye m.body)) (said past)) a

    q : ((is_none (asking past) && is_none (changing site past)) ≡ true) × (list_all (λ m. not (is_bye m.body))
        (said past) ≡ true)
    q = and_parts (is_none (asking past) && is_none (changing site past)) (list_all (λ m. not (is_bye m.body))
        (said past)) p.1

    go : (b : Body) → IsNoGiveBack b → IsUnanswered past v n b → IsUnanswered (s ∷ past) v n b → ⊥
    go Hello i o x = x.1 (welcome_yes (s ∷ past) v (greets_is (s ∷ past) (s ∷ past) v p.0 x.0))
    go (Fetch f) i o x = none_in (asking past) (numbered f.fid.fileset f.number) (and_parts (is_none (asking past))
        (is_none (changing site past)) q.0).0 (asking_in past f.fid.fileset f.number o.1)
    go (Change f) i o x = none_in (changing site past) (numbered f.fileset f.number) (and_parts (is_none
        (asking past)) (is_none (changing site past)) q.0).1 (at_site site past v f.fileset f.number local o.1)
    go Bye i o x =
        let k = at_said (λ m. not (is_bye m.body)) past v o.0.0 o.0.1 Bye q.1 o.0.2 in
        let r : not (is_bye Bye) ≡ true = k.1 in cc
    go (GiveBack g) i o x = elim i [ ]
    go b i o x = elim o [ ]

pub resends_meet : (site : ServerId) (past : List Step) (s : Step) → passes (resend_tests site past s) ≡ true
    → HostResends past s
unfolding is_lapse is_hello is_reclaim is_restarted is_answer goes_as sends_bye byes_at has_bye claims_at raises_at
    answers_at has_claim gives_as fetch_late greets_welcome gives_late byes_late claims_late late_right lapse_tests greeted
    learns_restart gives_restarted restart_right claims_only answered_all resend_tests is_bye is_local no_asked
resends_meet site past s e =
    let t = all_true (resend_tests site past s) e in
    record {
      claims_only = λ v (e, n, claim, p).
          let q : (learns_restart past s v || (is_lapse s.cause && has_claim past v)) ≡ true = at_sends
          (claims_only past s) s v e n (Reclaim claim) t.1.1.0 p in
          elim (or_cases (learns_restart past s v) (is_lapse s.cause && has_claim past v) q) [
            | inl x ↦ inl (learns_yes past s v x)
            | inr x ↦ (let r = and_parts (is_lapse s.cause) (has_claim past v) x in inr
                (lapse_cause s.cause r.0, claimed_yes past v r.1))
          ];
    }

greeted_is : (past : List Step) (v : ServerId) → HasGreeted past v → greeted past v ≡ true
unfolding is_lapse is_hello is_reclaim is_restarted is_answer goes_as sends_bye byes_at has_bye claims_at raises_at
    answers_at has_claim gives_as fetch_late greets_welcome gives_late byes_late claims_late late_right lapse_tests greeted
    learns_restart gives_restarted restart_right claims_only answered_all resend_tests is_bye is_local no_asked
greeted_is past v g =
    let h = said_in past v g.0 g.1 Hello g.2 in
    any_of (λ m. is_hello m.body && same_server m.server v) (said past) h.0 h.1
    (and_from (is_hello h.0.body) (same_server h.0.server v) (subst (λ b. is_hello b ≡ true) (sym h.5) refl)
    (servers h.0.server v h.2))

said_bye_is : (past : List Step) (v : ServerId) → HasSaid past v Bye → said_bye past v ≡ true
unfolding is_lapse is_hello is_reclaim is_restarted is_answer goes_as sends_bye byes_at has_bye claims_at raises_at
    answers_at has_claim gives_as fetch_late greets_welcome gives_late byes_late claims_late late_right lapse_tests greeted
    learns_restart gives_restarted restart_right claims_only answered_all resend_tests is_bye is_local no_asked
said_bye_is past v g =
    let h = said_in past v g.0 g.1 Bye g.2 in
    any_of (λ m. is_bye m.body && same_server m.server v) (said past) h.0 h.1
    (and_from (is_bye h.0.body) (same_server h.0.server v) (subst (λ b. is_bye b ≡ true) (sym h.5) refl)
    (servers h.0.server v h.2))

again_is : (site : ServerId) (past : List Step) → is_local site past ≡ true → (m : Message) (v : ServerId) (n : ℕ)
    (b : Body) → m.server ≡ v → IsUnanswered past v n b → is_again site past m b ≡ true
unfolding is_lapse is_hello is_reclaim is_restarted is_answer goes_as sends_bye byes_at has_bye claims_at raises_at
    answers_at has_claim gives_as fetch_late greets_welcome gives_late byes_late claims_late late_right lapse_tests greeted
    learns_restart gives_restarted restart_right claims_only answered_all resend_tests is_bye is_local no_asked
again_is site past local m v n Hello at o =
    subst (λ (x : ServerId). greeted past x ≡ true) (sym at) (greeted_is past v o.0)
again_is site past local m v n (Fetch f) at o = asking_is past f o.1
again_is site past local m v n (Change c) at o =
    let k = numbered c.fileset c.number in
    any_of (same_number k) (changing site past) k (at_site site past v c.fileset c.number local o.1) (numbers k k refl)
again_is site past local m v n (GiveBack g) at o =
    and_from (list_any (λ k. same_number (number_of k) (number_of g)) (made past)) (is_first past g)
    (any_of (λ k. same_number (number_of k) (number_of g)) (made past) g (made_in past g o.0.made)
    (numbers (number_of g) (number_of g) refl)) (first_is past g o.0)
again_is site past local m v n Bye at o =
    subst (λ (x : ServerId). said_bye past x ≡ true) (sym at) (said_bye_is past v o.0)
again_is site past local m v n b at o = elim o [ ]

may_yes : (past : List Step) (s : Step) (m : Message) (b : Body) → may_again past s m b ≡ true
    → SendsAgain past s m.server b
unfolding is_lapse is_hello is_reclaim is_restarted is_answer goes_as sends_bye byes_at has_bye claims_at raises_at
    answers_at has_claim gives_as fetch_late greets_welcome gives_late byes_late claims_late late_right lapse_tests greeted
    learns_restart gives_restarted restart_right claims_only answered_all resend_tests is_bye is_local no_asked
may_yes past s m (GiveBack g) e =
    elim (or_cases (learns_restart past s m.server)
    (list_any (λ i. list_any (same_id i) g.ids) (recalled past s.cause)) e) [
      | inl x ↦ inl (learns_yes past s m.server x)
      | inr x ↦ (
          let i = some_in (λ i. list_any (same_id i) g.ids) (recalled past s.cause) x in
          let j = some_in (same_id i.0) g.ids i.2 in
          let r = is_recalled past s i.0 (any_of (same_id i.0) (recalled past s.cause) i.0 i.1 (ids i.0 i.0 refl)) in
          inr (r.0, i.0, r.1, r.2, subst (λ x. In x g.ids) (sym (id_is i.0 j.0 j.2)) j.1)
          )
    ]
may_yes past s m b e = answers_is past s m.server s.cause refl e

pub repeats_due : (site : ServerId) (past : List Step) (s : Step) → passes (resend_tests site past s) ≡ true
    → RepeatsDue past s
unfolding is_lapse is_hello is_reclaim is_restarted is_answer goes_as sends_bye byes_at has_bye claims_at raises_at
    answers_at has_claim gives_as fetch_late greets_welcome gives_late byes_late claims_late late_right lapse_tests greeted
    learns_restart gives_restarted restart_right claims_only answered_all resend_tests is_bye is_local no_asked
repeats_due site past s e =
    let t = all_true (resend_tests site past s) e in
    let local = t.1.1.1.1.0 in
    record {
      lapse_all = λ v n b c o. all_late site past s local (lapse_is s site past t.0 c) v n b o;
      lapse_claims = λ v c x. late_all site past s (lapse_is s site past t.0 c) v x;
      lapse_only = λ v e n b c p.
          late_is past s (told p.0 v e n b) b refl (at_sends (λ m. late_right past m m.body) s v e n b
          (lapse_is s site past t.0 c).1.1.1.1.1.1.0 p);
      lapse_quiet = λ c.
          let q = (lapse_is s site past t.0 c).1.1.1.1.1.1.1 in (
            not_asked s.asked q.0,
            none_is s.answers q.1.0,
            none_is s.taken q.1.1.0,
            none_is s.dropped q.1.1.1.0,
            none_is s.made q.1.1.1.1.0,
          );
      restarted_gives = λ v n g l o.
          let p = at_comes (restart_right past s) s v l.2.0 l.2.1 Restarted t.1.0 l.2.2 in
          let q = and_parts (claims_at s v) (list_all (gives_restarted past s v) (made past)) (so
          (learns_restart past s v) (claims_at s v && list_all (gives_restarted past s v) (made past)) p
          (learns_is past s v l)) in
          gives_as_yes past s g (epoch_at (s ∷ past) v) v n (so (is_first past g) (gives_as past s g (epoch_at (s
          ∷ past) v)) (at_all (gives_restarted past s v) (made past) g q.1 (made_in past g o.0.made))
          (first_is past g o.0)) o.1;
      restarted_claims = λ v l.
          let p = at_comes (restart_right past s) s v l.2.0 l.2.1 Restarted t.1.0 l.2.2 in
          let q = and_parts (claims_at s v) (list_all (gives_restarted past s v) (made past)) (so
          (learns_restart past s v) (claims_at s v && list_all (gives_restarted past s v) (made past)) p
          (learns_is past s v l)) in
          claims_at_yes s v q.0;
      reclaimed_all = λ v n answer b c i o x. absurd (others site past s local t.1.1.1.0 v n answer b c i o x);
      again_only = λ v d n b p o.
          let m = told p.0 v d n b in
          let t = at_sends (λ m. again_right site past s m m.body) s v d n b t.1.1.1.1.1.0 p in
          elim (or_cases (not (is_again site past m b)) (is_lapse s.cause || may_again past s m b) t) [
            | inl x ↦ absurd (is_not (is_again site past m b) x (again_is site past local m v n b refl o))
            | inr x ↦ elim (or_cases (is_lapse s.cause) (may_again past s m b) x) [
              | inl y ↦ inl (lapse_cause s.cause y)
              | inr y ↦ inr (may_yes past s m b y)
            ]
          ];
      bye_again = λ v (d, n, p) said_ bye_.
          let t = at_sends (bye_once past) s v d n Bye t.1.1.1.1.1.1.0 p in
          is_not (has_bye past v && said_bye past v) t
          (and_from (has_bye past v) (said_bye past v) (has_bye_is past v bye_) (said_bye_is past v said_));
      gives_only = λ v d n g p.
          let q : gives_out (s ∷ past) (GiveBack g) ≡ true = at_sends
          (λ m. gives_out (s ∷ past) m.body) s v d n (GiveBack g) t.1.1.1.1.1.1.1.0 p in
          let r = and_parts (list_any (same_give g) (made (s ∷ past))) (is_first (s ∷ past) g) q in
          let k = some_in (same_give g) (made (s ∷ past)) r.0 in
          first_yes (s ∷ past) g (in_made (s ∷ past) g (subst (λ x. In x (made (s ∷ past))) (sym
          (give_is g k.0 k.2)) k.1)) r.1;
    }

-- tokens that are taken
unfoldable pub taken_or_held : List Step → Step → Token → Bool
taken_or_held past s t = holds_id past t.id || list_any (λ u. same_id u.id t.id) s.taken

abbrev pub same_token_id : Token → Token → Bool
same_token_id t u = same_id t.id u.id

unfoldable pub take_tests : List Step → Step → List Bool
take_tests past s =
    list_all (λ w. list_all (taken_or_held past s) w.tokens) (brought s.cause) ∷ apart same_token_id s.taken ∷ []

pub takes_meet : (past : List Step) (s : Step) → passes (take_tests past s) ≡ true → HostTakes past s
unfolding is_lapse is_hello is_reclaim is_restarted is_answer goes_as sends_bye byes_at has_bye claims_at raises_at
    answers_at has_claim gives_as fetch_late greets_welcome gives_late byes_late claims_late late_right lapse_tests greeted
    learns_restart gives_restarted restart_right claims_only answered_all resend_tests taken_or_held take_tests is_bye
    is_local no_asked
takes_meet past s e =
    let t = all_true (take_tests past s) e in
    record {
      all = λ w k u m free.
          let p = at_all (taken_or_held past s) w.tokens k (at_all (λ (w : Bring). list_all
          (taken_or_held past s) w.tokens) (brought s.cause) w t.0 (used_in past s w u.0)) m in
          elim (or_cases (holds_id past k.id) (list_any (λ (u : Token). same_id u.id k.id) s.taken) p) [
            | inl x ↦ absurd (free (holds_yes past k.id x))
            | inr x ↦ (let q = some_in (λ (u : Token). same_id u.id k.id) s.taken x in
                (q.0, q.1, id_is q.0.id k.id q.2))
          ];
      once = λ k u m n is. only_one same_token_id s.taken k u t.1.0 m n (ids k.id u.id is);
    }

pub taken_once : (past : List Step) (s : Step) → passes (take_tests past s) ≡ true → EachOnce s.taken
unfolding take_tests
taken_once past s e =
    let t = all_true (take_tests past s) e in once_from same_token_id s.taken (λ k. ids k.id k.id refl) t.1.0
