-- The rules of asking for a host's step that asks nothing new, computed.
use Rattle.run_examples.proofs.FetchWords.{asking_yes, fetch_body, is_asking, is_fetch}
use Rattle.run_examples.proofs.Words.{in_said, said}
use Rattle.run_rules.specs.HostAsks.{AwaitsGone, HasFetched}
use Rattle.run_rules.specs.Messages.{Asking, Said}
use Rattle.run_rules.specs.Past.{In}
use Rattle.run_rules.specs.Tokens.{GiveOpen, number_of}
use Rattle.message_types.specs.declared.message.Message.{Message}
use Rattle.std.proofs.Common.{Bool, List, Some, [], false, inl, inr, refl, subst, sym, true}
use Rattle.std.proofs.Common.{◌&&◌, ◌||◌, ◌∙◌, ◌∷◌, ◌≡◌}
use Rattle.std.proofs.lemmas.Bool.{and_parts, or_cases}
use Rattle.std.specs.Prelude.{not}
use Rattle.std.specs.List.{list_any}
use Rattle.base_types.specs.Ids.{same_fid}
use Rattle.base_types.specs.declared.ids.Fid.{Fid}
use Rattle.base_types.specs.declared.ids.HostId.{HostId}
use Rattle.base_types.specs.declared.ids.ServerId.{ServerId}
use Rattle.base_types.specs.declared.user.User.{User}
use Rattle.tree_calls.specs.Rosters.{user_of}
use Rattle.tree_calls.specs.declared.call.Call.{Call}
use Rattle.tree_calls.specs.declared.roster.Roster.{Roster}
use Rattle.need_host.specs.Calls.{Verdict}
use Rattle.need_host.specs.Calls.Verdict.{Gives}
use Rattle.need_host.specs.Looks.{IsFirstLack}
use Rattle.token_types.specs.declared.token.Need.{Need}
use Rattle.token_types.specs.declared.token.Token.{Token}
use Rattle.message_types.specs.declared.asking.Fetch.{Fetch as FetchOf}
use Rattle.message_types.specs.declared.giving.AppliedGive.{AppliedGive}
use Rattle.message_types.specs.declared.giving.Give.{Give}
use Rattle.message_types.specs.declared.message.Body.{Body}
use Rattle.message_types.specs.declared.message.Body.TheVariants.{Hello, Fetch, Change}
use Rattle.run_rules.specs.declared.step.Asked.{Asked}
use Rattle.run_rules.specs.declared.step.Step.{Step}
use Rattle.run_examples.proofs.Tests.{passes, is_not, some_in, is_none, none_in, fid_is}
use Rattle.run_examples.proofs.Words.{held, is_known, known_is, made}
use Rattle.run_examples.proofs.Words.{in_made}
use Rattle.run_examples.proofs.CallWords.{the_call}
use Rattle.run_examples.proofs.StanceChecks.{stance_of, stance_tests}
use Rattle.run_examples.proofs.AnswerChecks.{covers_it, covers_yes, lacks_is, lacks_it, needs_at, verdict_at}

unfoldable pub asks_new : Body → Bool
asks_new Hello = true
asks_new (Fetch f) = true
asks_new (Change c) = true
asks_new _ = false

-- a Fetch is asked again while it is outstanding
unfoldable pub asks_again : List Step → Body → Bool
asks_again past (Fetch f) = list_any (λ k. is_fetch f k.body) (said past) && is_asking past f
asks_again past b = not (asks_new b)

unfoldable pub is_gives : Verdict → Bool
is_gives Gives = true
is_gives _ = false

gives_is : (v : Verdict) → is_gives v ≡ true → v ≡ Gives
unfolding asks_new is_gives
gives_is Gives e = refl
gives_is v e = absurd (cc)

unfoldable pub is_open_give : List Step → Fid → Give → Bool
is_open_give now fid g = same_fid g.fid fid && not (is_known now (number_of g))

-- the first need that tokens lack is of an object of which a give-back is on its way
unfoldable pub lack_waits : List Token → List Step → List Need → Bool
lack_waits kept now [] = false
lack_waits kept now (n ∷ ns) =
    (lacks_it kept n && list_any (is_open_give now n.fid) (made now)) || (covers_it kept n && lack_waits kept now ns)

lack_waits_is : (kept : List Token) (now : List Step) (needs : List Need) → lack_waits kept now needs ≡ true
    → (need : Need) × IsFirstLack kept needs need × GiveOpen now need.fid
unfolding asks_new is_gives is_open_give lack_waits
lack_waits_is kept now [] e = absurd (cc)
lack_waits_is kept now (n ∷ ns) e =
    elim (or_cases (lacks_it kept n && list_any (is_open_give now n.fid) (made now))
    (covers_it kept n && lack_waits kept now ns) e) [
      | inl x ↦ (
          let p = and_parts (lacks_it kept n) (list_any (is_open_give now n.fid) (made now)) x in
          let q = some_in (is_open_give now n.fid) (made now) p.1 in
          let r = and_parts (same_fid q.0.fid n.fid) (not (is_known now (number_of q.0))) q.2 in (
            n,
            inl (lacks_is kept n p.0, refl),
            (
              q.0,
              in_made now q.0 q.1,
              fid_is q.0.fid n.fid r.0,
              λ k. is_not
                  (is_known now (number_of q.0)) r.1 (known_is now (number_of q.0) k),
            ),
          )
          )
      | inr x ↦ (
          let p = and_parts (covers_it kept n) (lack_waits kept now ns) x in
          let r = lack_waits_is kept now ns p.1 in
          (r.0, inr (covers_yes kept n p.0, r.1), r.2)
          )
    ]

unfoldable pub waits_right : ServerId → HostId → User → List Step → Step → Asked → Bool
waits_right site host user past s c =
    lack_waits (held (s ∷ past)) (s ∷ past) (needs_at site host user past s c.call)
    || (is_gives (verdict_at site host user past s c.call) && list_any (λ g. not (is_known (s ∷ past) (number_of g)))
    (made (s ∷ past)))

unfoldable pub one_or_none : List AppliedGive → Bool
one_or_none [] = true
one_or_none (x ∷ xs) = is_none xs

pub one_of : (xs : List AppliedGive) (x y : AppliedGive) → one_or_none xs ≡ true → In x xs → In y xs → x ≡ y
unfolding asks_new is_gives is_open_give lack_waits waits_right one_or_none
one_of [] x y e m n = elim m [ ]
one_of (z ∷ zs) x y e (inl p) (inl q) = p ∙ sym q
one_of (z ∷ zs) x y e (inr p) n = absurd (none_in zs x e p)
one_of (z ∷ zs) x y e (inl p) (inr q) = absurd (none_in zs y e q)

module _ (site : ServerId) (roster : Roster) (host : HostId) (user : User) (past : List Step) (s : Step)
    (acts : user_of roster host ≡ Some user) (known : passes (stance_tests site host past s) ≡ true) where
  pub again : (f : FetchOf) → asks_again past (Fetch f) ≡ true → HasFetched past f × Asking past f.fid.fileset f.number
  unfolding asks_again
  again f t =
      let p = and_parts (list_any (λ k. is_fetch f k.body) (said past)) (is_asking past f) t in
      let k = some_in (λ (k : Message). is_fetch f k.body) (said past) p.0 in (
        (
          k.0.server,
          k.0.epoch,
          k.0.moves,
          subst (λ b. Said past k.0.server k.0.epoch k.0.moves b) (fetch_body f k.0.body k.2) (in_said past k.0 k.1),
        ),
        asking_yes past f p.1,
      )

  pub awaits : (call : Call) → waits_right site host user past s (the_call 0 call) ≡ true
      → AwaitsGone roster host past s (stance_of site roster host user past s acts known) call
  unfolding waits_right
  awaits call e =
      elim (or_cases (lack_waits (held (s ∷ past)) (s ∷ past) (needs_at site host user past s call)) (is_gives
      (verdict_at site host user past s call) && list_any (λ g. not (is_known (s ∷ past) (number_of g))) (made (s
      ∷ past))) e) [
        | inl x ↦ inl (lack_waits_is (held (s ∷ past)) (s ∷ past) (needs_at site host user past s call) x)
        | inr x ↦ (
            let p = and_parts (is_gives (verdict_at site host user past s call)) (list_any (λ g. not (is_known (s
            ∷ past) (number_of g))) (made (s ∷ past))) x in
            let q = some_in (λ g. not (is_known (s ∷ past) (number_of g))) (made (s ∷ past)) p.1 in
            inr (
              gives_is (verdict_at site host user past s call) p.0,
              (
                q.0,
                in_made (s ∷ past) q.0 q.1,
                λ k. is_not
                    (is_known (s ∷ past) (number_of q.0)) q.2 (known_is (s ∷ past) (number_of q.0) k),
              ),
            )
            )
      ]
