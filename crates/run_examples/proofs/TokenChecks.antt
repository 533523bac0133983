-- The rules of tokens for a host's step, computed: where each test passes the rules hold.
use Rattle.run_rules.specs.HostTokens.{Claims, HostTokens, IsClaimable, IsInGive}
use Rattle.run_rules.specs.Messages.{Changing, HasSaid, Sends, Stops, epoch_at, stay_of}
use Rattle.run_rules.specs.Past.{In}
use Rattle.run_rules.specs.Tokens.{NamesGive, number_of}
use Rattle.std.proofs.Common.{Bool, List, [], ap, false, inl, inr, refl, subst, sym, true}
use Rattle.std.proofs.Common.{ℕ, ◌&&◌, ◌||◌, ◌==◌, ◌∙◌, ◌∷◌, ◌≡◌}
use Rattle.std.proofs.lemmas.Bool.{and_parts, and_from, or_cases, eqb-true, ltb-true, lt-ltb}
use Rattle.std.specs.Prelude.{not, nat_lt}
use Rattle.std.specs.List.{list_all, list_any}
use Rattle.base_types.specs.Ids.{same_fid}
use Rattle.base_types.specs.declared.ids.FilesetId.{FilesetId}
use Rattle.base_types.specs.declared.ids.ServerId.{ServerId}
use Rattle.token_types.specs.Conflicts.{same_id}
use Rattle.token_types.specs.declared.token.Token.{Token}
use Rattle.token_types.specs.declared.token.TokenId.{TokenId}
use Rattle.message_types.specs.declared.giving.Give.{Give}
use Rattle.message_types.specs.declared.giving.Outstanding.{Outstanding}
use Rattle.message_types.specs.declared.giving.Reclaim.{Reclaim as ReclaimOf}
use Rattle.message_types.specs.declared.message.Body.{Body}
use Rattle.message_types.specs.declared.message.Body.TheVariants.{Fetch, Change, Returned, Kept, GiveBack, Reclaim, Down}
use Rattle.message_types.specs.declared.message.Body.TheVariants.{Bye}
use Rattle.message_types.specs.declared.message.Message.{Message}
use Rattle.run_rules.specs.declared.step.Step.{Step}
use Rattle.run_examples.proofs.Tests.{AllTrue, passes, all_true, implies, so, is_not, at_all, some_in, any_of, apart}
use Rattle.run_examples.proofs.Tests.{only_one}
use Rattle.run_examples.proofs.Tests.{is_none, none_in, same_server, same_fileset, server_is, servers, fileset_is}
use Rattle.run_examples.proofs.Tests.{filesets}
use Rattle.run_examples.proofs.Tests.{fid_is, id_is, ids, same_token, token_is, same_number}
use Rattle.run_examples.proofs.Tests.{number_is}
use Rattle.run_examples.proofs.Tests.{numbers, same_give, give_is}
use Rattle.run_examples.proofs.Words.{told, at_sends, at_said, said, in_made, made_in, made, is_known, known_yes}
use Rattle.run_examples.proofs.Words.{drops_it, drops_yes, held, held_in, in_held, hand, hand_in, in_hand}
use Rattle.run_examples.proofs.Words.{holds_id}
use Rattle.run_examples.proofs.Words.{holds_is, ever, in_ever, returned, returned_in, leaves_it}
use Rattle.run_examples.proofs.Words.{leaves_yes, leaves_is}
use Rattle.run_examples.proofs.Words.{owned, owned_in, waits, waits_yes, is_first, first_yes, first_is, numbered}
use Rattle.run_examples.proofs.Words.{asking, asking_in}
use Rattle.run_examples.proofs.Words.{changing, changing_in, in_changing, moved, was_said, recalled, is_recalled}
use Rattle.run_examples.proofs.Words.{may_take, take_yes}

-- kinds of messages
unfoldable pub is_down : Body → Bool
is_down Down = true
is_down _ = false

unfoldable pub is_bye : Body → Bool
is_bye Bye = true
is_bye _ = false

pub down_is : (b : Body) → is_down b ≡ true → b ≡ Down
unfolding is_down is_bye
down_is Down e = refl
down_is b e = absurd (cc)

unfoldable pub says : (Body → Bool) → Step → Bool
says is s = list_any (λ m. is m.body) s.sent

pub says_it : (is : Body → Bool) (s : Step) (v : ServerId) (e n : ℕ) (b : Body) → is b ≡ true → Sends s v e n b
    → says is s ≡ true
unfolding is_down is_bye says
says_it is s v e n b t p = any_of (λ m. is m.body) s.sent p.0 p.1 (subst (λ x. is x ≡ true) (sym p.5) t)

pub stops_it : (s : Step) → Stops s → says is_down s ≡ true
unfolding is_down is_bye says
stops_it s st = says_it is_down s st.0 st.1 st.2 Down refl st.3

pub stops_yes : (s : Step) → says is_down s ≡ true → Stops s
unfolding is_down is_bye says
stops_yes s e =
    let p = some_in (λ m. is_down m.body) s.sent e in
    (p.0.server, p.0.epoch, p.0.moves, (p.0, p.1, refl, refl, refl, down_is p.0.body p.2))

-- the message goes to where the fileset is
unfoldable pub is_place : List Step → FilesetId → Message → Bool
is_place past fs m = same_server (stay_of past fs).server m.server && ((stay_of past fs).moves == m.moves)

pub place_is : (past : List Step) (fs : FilesetId) (m : Message) → is_place past fs m ≡ true
    → stay_of past fs ≡ record { server = m.server; moves = m.moves }
unfolding is_down is_bye says is_place
place_is past fs m e =
    let p = and_parts (same_server (stay_of past fs).server m.server) ((stay_of past fs).moves == m.moves) e in
    let v = server_is (stay_of past fs).server m.server p.0 in
    let n = eqb-true (stay_of past fs).moves m.moves p.1 in
    λ i. record { server = v i; moves = n i }

unfoldable pub goes_right : List Step → Message → Body → Bool
goes_right past m (Returned w) = is_place past w.fid.fileset m
goes_right past m (Kept w) = is_place past w.fid.fileset m
goes_right past m (GiveBack g) = is_place past g.fid.fileset m
goes_right past m (Fetch f) = is_place past f.fid.fileset m
goes_right past m (Change c) = ((c.fileset.0 == 0) && (m.moves == 0)) || is_place past c.fileset m
goes_right past m _ = true

unfoldable pub of_file : List Token → Body → Bool
of_file ts (Returned w) = list_all (λ t. implies (list_any (same_id t.id) w.ids) (same_fid t.fid w.fid)) ts
of_file ts (Kept w) = list_all (λ t. implies (list_any (same_id t.id) w.ids) (same_fid t.fid w.fid)) ts
of_file ts _ = true

unfoldable pub was_made : List Give → Body → Bool
was_made gs (GiveBack g) = list_any (same_give g) gs
was_made gs _ = true

unfoldable pub follows : List Step → Body → Bool
follows past (GiveBack g) =
    list_all (λ k. implies (same_fileset k.fid.fileset g.fid.fileset && nat_lt k.number g.number) (is_known past
    (number_of k)))
    (made past)
follows past _ = true

unfoldable pub asks : Body → Bool
asks (Fetch f) = true
asks (Change c) = true
asks _ = false

unfoldable pub shares : Give → Give → Bool
shares g k = list_any (λ i. list_any (same_id i) k.ids) g.ids

-- a claim
unfoldable pub claimed : List Step → ServerId → TokenId → Bool
claimed past server id = same_server id.server server && nat_lt id.epoch (epoch_at past server)

claimed_yes : (past : List Step) (server : ServerId) (id : TokenId) → claimed past server id ≡ true
    → IsClaimable past server id
unfolding is_down is_bye says is_place goes_right of_file was_made follows asks shares claimed
claimed_yes past server id e =
    let p = and_parts (same_server id.server server) (nat_lt id.epoch (epoch_at past server)) e in
    (server_is id.server server p.0, ltb-true id.epoch (epoch_at past server) p.1)

claimed_is : (past : List Step) (server : ServerId) (id : TokenId) → IsClaimable past server id
    → claimed past server id ≡ true
unfolding is_down is_bye says is_place goes_right of_file was_made follows asks shares claimed
claimed_is past server id c =
    and_from (same_server id.server server) (nat_lt id.epoch (epoch_at past server)) (servers id.server server c.0)
    (lt-ltb id.epoch (epoch_at past server) c.1)

unfoldable pub names_it : List Outstanding → Give → Bool
names_it numbers g = list_any (λ o. same_fileset o.fileset g.fid.fileset && (o.give == g.number)) numbers

unfoldable pub in_give : List Step → ReclaimOf → Token → Bool
in_give past claim t =
    list_any (λ g. (same_fid g.fid t.fid && list_any (same_id t.id) g.ids) &&
    (names_it claim.numbers g || waits past g)) (made past)

names_yes : (numbers : List Outstanding) (g : Give) → names_it numbers g ≡ true → NamesGive numbers g
unfolding is_down is_bye says is_place goes_right of_file was_made follows asks shares claimed names_it in_give
names_yes numbers g e =
    let p = some_in (λ o. same_fileset o.fileset g.fid.fileset && (o.give == g.number)) numbers e in
    let q = and_parts (same_fileset p.0.fileset g.fid.fileset) (p.0.give == g.number) p.2 in
    (p.0, p.1, fileset_is p.0.fileset g.fid.fileset q.0, eqb-true p.0.give g.number q.1)

in_give_yes : (past : List Step) (claim : ReclaimOf) (t : Token) → in_give past claim t ≡ true → IsInGive past claim t
unfolding is_down is_bye says is_place goes_right of_file was_made follows asks shares claimed names_it in_give
in_give_yes past claim t e =
    let p = some_in (λ g. (same_fid g.fid t.fid && list_any (same_id t.id) g.ids) &&
    (names_it claim.numbers g || waits past g)) (made past) e in
    let g = p.0 in
    let q = and_parts (same_fid g.fid t.fid && list_any (same_id t.id) g.ids)
    (names_it claim.numbers g || waits past g) p.2 in
    let r = and_parts (same_fid g.fid t.fid) (list_any (same_id t.id) g.ids) q.0 in
    let i = some_in (same_id t.id) g.ids r.1 in (
      g,
      in_made past g p.1,
      fid_is g.fid t.fid r.0,
      subst (λ x. In x g.ids) (sym (id_is t.id i.0 i.2)) i.1,
      elim (or_cases (names_it claim.numbers g) (waits past g) q.1) [
        | inl x ↦ inl
            (names_yes claim.numbers g x)
        | inr y ↦ inr (waits_yes past g y)
      ],
    )

unfoldable pub names_all : List Step → ServerId → ReclaimOf → Give → Bool
names_all past server claim g =
    is_known past (number_of g)
    || list_all (λ i. implies (claimed past server i) (list_any (λ t. same_id t.id i) claim.tokens)) g.ids

unfoldable pub is_due : List Step → ServerId → ReclaimOf → Token → Bool
is_due past server claim t =
    (list_any (same_token t) (ever past) && claimed past server t.id)
    && (list_any (same_token t) (held past) || in_give past claim t)

unfoldable pub claim_tests : List Step → ServerId → ReclaimOf → List Bool
claim_tests past server claim =
    list_all (λ t. implies (claimed past server t.id) (list_any (same_token t) claim.tokens)) (held past)
    ∷ list_all (names_all past server claim) (made past)
    ∷ list_all (is_due past server claim) claim.tokens
    ∷ list_all (λ t. list_any (λ o. same_fileset o.fileset t.fid.fileset) claim.numbers) claim.tokens
    ∷ list_all (λ o. o.moves == (stay_of past o.fileset).moves) claim.numbers
    ∷ list_all (λ o. implies (nat_lt 0 o.give) (list_any (λ g. is_first past g && same_number (number_of g)
    (numbered o.fileset o.give)) (made past))) claim.numbers
    ∷ list_all (λ o. list_all (λ g. implies (is_first past g && same_fileset g.fid.fileset o.fileset)
    (o.give == g.number)) (made past)) claim.numbers
    ∷ list_all (λ o. implies (nat_lt 0 o.change) (list_any (same_number (numbered o.fileset o.change))
    (changing server past))) claim.numbers
    ∷ list_all (λ o. list_all (λ n. implies (same_fileset n.fileset o.fileset) (o.change == n.number))
    (changing server past)) claim.numbers
    ∷ []

in_tokens : (t : Token) (ts : List Token) → list_any (same_token t) ts ≡ true → In t ts
unfolding is_down is_bye says is_place goes_right of_file was_made follows asks shares claimed names_it in_give
    names_all is_due claim_tests
in_tokens t ts e =
    let p = some_in (same_token t) ts e in subst (λ x. In x ts) (sym (token_is t p.0 p.2)) p.1

claims_from : (past : List Step) (server : ServerId) (claim : ReclaimOf) → AllTrue (claim_tests past server claim)
    → Claims past server claim
unfolding is_down is_bye says is_place goes_right of_file was_made follows asks shares claimed names_it in_give
    names_all is_due claim_tests
claims_from past server claim (
  held_,
  (
    given_,
    (
      only_,
      (
        numbers_,
        (
          moves_,
          (
            gives_,
            (
              gives_all_,
              (
                changes_,
                (changes_all_, _),
              ),
            ),
          ),
        ),
      ),
    ),
  ),
) = record {
  held = λ t h c. in_tokens t claim.tokens (so (claimed past server t.id) (list_any (same_token t) claim.tokens)
      (at_all (λ t. implies (claimed past server t.id) (list_any (same_token t) claim.tokens)) (held past) t held_
      (held_in past t h)) (claimed_is past server t.id c));
  given = λ g i m n c open_.
      elim (or_cases (is_known past (number_of g)) (list_all (λ i. implies (claimed past server i) (list_any
      (λ t. same_id t.id i) claim.tokens)) g.ids) (at_all (names_all past server claim) (made past) g given_
      (made_in past g m))) [
        | inl k ↦ absurd (open_ (known_yes past (number_of g) k))
        | inr a ↦ (
            let e = so (claimed past server i) (list_any (λ t. same_id t.id i) claim.tokens) (at_all (λ i. implies
            (claimed past server i) (list_any (λ t. same_id t.id i) claim.tokens)) g.ids i a n)
            (claimed_is past server i c) in
            let p = some_in (λ t. same_id t.id i) claim.tokens e in
            (p.0, p.1, id_is p.0.id i p.2)
            )
      ];
  only = λ t m.
      let p = and_parts (list_any (same_token t) (ever past) && claimed past server t.id) (list_any (same_token t)
      (held past) || in_give past claim t) (at_all (is_due past server claim) claim.tokens t only_ m) in
      let q = and_parts (list_any (same_token t) (ever past)) (claimed past server t.id) p.0 in (
        in_ever past t (in_tokens t (ever past) q.0),
        claimed_yes past server t.id q.1,
        elim (or_cases (list_any (same_token t) (held past)) (in_give past claim t) p.1) [
          | inl x ↦ inl
              (in_held past t (in_tokens t (held past) x))
          | inr y ↦ inr (in_give_yes past claim t y)
        ],
      );
  numbers = λ t m.
      let p = some_in (λ o. same_fileset o.fileset t.fid.fileset) claim.numbers (at_all (λ t. list_any
      (λ o. same_fileset o.fileset t.fid.fileset) claim.numbers) claim.tokens t numbers_ m) in
      (p.0, p.1, fileset_is p.0.fileset t.fid.fileset p.2);
  moves = λ o m. eqb-true o.moves (stay_of past o.fileset).moves (at_all (λ o. o.moves ==
      (stay_of past o.fileset).moves) claim.numbers o moves_ m);
  gives = λ o m up.
      let e = so (nat_lt 0 o.give) (list_any (λ g. is_first past g && same_number (number_of g)
      (numbered o.fileset o.give)) (made past)) (at_all (λ o. implies (nat_lt 0 o.give) (list_any
      (λ g. is_first past g && same_number (number_of g) (numbered o.fileset o.give))
      (made past))) claim.numbers o gives_ m) (lt-ltb 0 o.give up) in
      let p = some_in (λ g. is_first past g && same_number (number_of g) (numbered o.fileset o.give)) (made past) e in
      let q = and_parts (is_first past p.0) (same_number (number_of p.0) (numbered o.fileset o.give)) p.2 in
      (p.0, first_yes past p.0 (in_made past p.0 p.1) q.0, number_is (number_of p.0) (numbered o.fileset o.give) q.1);
  gives_all = λ o g m out f.
      eqb-true o.give g.number (so (is_first past g && same_fileset g.fid.fileset o.fileset) (o.give == g.number)
      (at_all (λ g. implies (is_first past g && same_fileset g.fid.fileset o.fileset) (o.give == g.number))
      (made past) g
      (at_all (λ o. list_all (λ g. implies (is_first past g && same_fileset g.fid.fileset o.fileset)
      (o.give == g.number)) (made past)) claim.numbers o gives_all_ m) (made_in past g out.made))
      (and_from (is_first past g) (same_fileset g.fid.fileset o.fileset) (first_is past g out)
      (filesets g.fid.fileset o.fileset f)));
  changes = λ o m up.
      let e = so (nat_lt 0 o.change) (list_any (same_number (numbered o.fileset o.change)) (changing server past))
      (at_all (λ o. implies (nat_lt 0 o.change) (list_any (same_number (numbered o.fileset o.change))
      (changing server past))) claim.numbers o changes_ m) (lt-ltb 0 o.change up) in
      let p = some_in (same_number (numbered o.fileset o.change)) (changing server past) e in
      in_changing past server o.fileset o.change (subst (λ x. In x (changing server past)) (sym (number_is
      (numbered o.fileset o.change) p.0 p.2)) p.1);
  changes_all = λ o n m c.
      eqb-true o.change n (so (same_fileset o.fileset o.fileset) (o.change == n)
      (at_all (λ n. implies (same_fileset n.fileset o.fileset) (o.change == n.number)) (changing server past)
      (numbered o.fileset n)
      (at_all (λ o. list_all (λ n. implies (same_fileset n.fileset o.fileset) (o.change == n.number))
      (changing server past)) claim.numbers o changes_all_ m) (changing_in past server o.fileset n c))
      (filesets o.fileset o.fileset refl));
}

unfoldable pub is_claim : List Step → Message → Body → Bool
is_claim past m (Reclaim claim) = passes (claim_tests past m.server claim)
is_claim past m _ = true

-- all Changes go to one server
unfoldable pub goes_to : ServerId → Message → Body → Bool
goes_to site m (Change c) = same_server m.server site
goes_to site m _ = true

pub at_site : (site : ServerId) (past : List Step) (v : ServerId) (fs : FilesetId) (n : ℕ)
    → list_all (λ m. goes_to site m m.body) (said past) ≡ true → Changing past v fs n → In (numbered fs n)
    (changing site past)
unfolding is_down is_bye says is_place goes_right of_file was_made follows asks shares claimed names_it in_give
    names_all is_due claim_tests is_claim goes_to
at_site site past v fs n e c =
    let r = was_said past v fs n c in
    let p = at_said (λ m. goes_to site m m.body) past r.1 r.2 r.3 (Change r.0) e r.4 in
    let at : r.1 ≡ site = server_is r.1 site p.1 in
    changing_in past site fs n (moved past v site fs n (λ z. sym (r.6 (ap (λ (x : FilesetId). x.0) r.5 ∙ z)) ∙ at) c)

unfoldable pub may_return : List Step → Step → TokenId → Bool
may_return past s i = list_any (λ t. same_id t.id i) (hand s past) || list_any (same_id i) (recalled past s.cause)

unfoldable pub is_settled : List Step → TokenId → Give → Bool
is_settled past i g = implies (list_any (same_id i) g.ids) (is_known past (number_of g))

unfoldable pub had : List Step → Step → Give → TokenId → Bool
had past s g i = list_any (λ t. same_id t.id i && same_fid t.fid g.fid) (hand s past)

unfoldable pub leaves_all : ServerId → List Step → List Bool
leaves_all site past =
    is_none (owned past) ∷ list_all (λ g. is_known past (number_of g)) (made past) ∷ is_none (asking past)
    ∷ is_none (changing site past) ∷ []

unfoldable pub token_tests : ServerId → List Step → Step → List Bool
token_tests site past s =
    list_all (λ m. not (is_down m.body)) (said past)
    ∷ implies (says is_down s) (list_all (λ m. is_down m.body) s.sent)
    ∷ list_all (λ m. m.epoch == epoch_at (s ∷ past) m.server) s.sent
    ∷ list_all (λ t. may_take past s.cause t && not (holds_id past t.id)) s.taken
    ∷ list_all (λ t. implies (leaves_it s t.id) (drops_it s t)) (hand s past)
    ∷ list_all (λ l. leaves_it s l.token.id || says is_down s) s.dropped
    ∷ list_all (may_return past s) (returned s)
    ∷ list_all (λ i. list_all (is_settled (s ∷ past) i) (made (s ∷ past))) (returned s)
    ∷ list_all (λ m. goes_right (s ∷ past) m m.body) s.sent
    ∷ list_all (λ m. of_file (hand s past) m.body) s.sent
    ∷ list_all (λ g. list_all (had past s g) g.ids) s.made
    ∷ apart shares s.made
    ∷ list_all (λ g. nat_lt 0 g.number) s.made
    ∷ apart (λ g k. same_number (number_of g) (number_of k)) s.made
    ∷ list_all (λ g. list_all (λ k. implies (same_fileset k.fid.fileset g.fid.fileset) (nat_lt k.number g.number))
    (made past)) s.made
    ∷ list_all (λ m. was_made (made (s ∷ past)) m.body) s.sent
    ∷ list_all (λ m. follows (s ∷ past) m.body) s.sent
    ∷ implies (says asks s) (list_all (λ m. not (is_bye m.body)) (said past))
    ∷ list_all (λ m. is_claim (s ∷ past) m m.body) s.sent
    ∷ implies (says is_bye s) (passes (leaves_all site (s ∷ past)))
    ∷ list_all (λ m. goes_to site m m.body) (said (s ∷ past))
    ∷ []

quits : (site : ServerId) (past : List Step) (s : Step) → implies (says is_bye s) (passes (leaves_all site (s
    ∷ past))) ≡ true → (v : ServerId) (e n : ℕ) → Sends s v e n Bye
    → AllTrue (leaves_all site (s ∷ past))
unfolding is_down is_bye says is_place goes_right of_file was_made follows asks shares claimed names_it in_give
    names_all is_due claim_tests is_claim goes_to may_return is_settled had leaves_all token_tests
quits site past s t v e n p =
    all_true (leaves_all site (s ∷ past)) (so (says is_bye s) (passes (leaves_all site (s ∷ past))) t
    (says_it is_bye s v e n Bye refl p))

no_bye : (site : ServerId) (past : List Step) (s : Step) → implies (says asks s) (list_all (λ m. not (is_bye m.body))
    (said past)) ≡ true
    → (v : ServerId) (e n : ℕ) (b : Body) → asks b ≡ true → Sends s v e n b → (w : ServerId) → HasSaid past w Bye → ⊥
unfolding is_down is_bye says is_place goes_right of_file was_made follows asks shares claimed names_it in_give
    names_all is_due claim_tests is_claim goes_to may_return is_settled had leaves_all token_tests
no_bye site past s t v e n b is p w h =
    let q = at_said (λ m. not (is_bye m.body)) past w h.0 h.1 Bye (so (says asks s) (list_all (λ m. not
    (is_bye m.body)) (said past)) t (says_it asks s v e n b is p)) h.2 in
    let r = q.1 in cc

tokens_from : (site : ServerId) (past : List Step) (s : Step) → AllTrue (token_tests site past s) → HostTokens past s
unfolding is_down is_bye says is_place goes_right of_file was_made follows asks shares claimed names_it in_give
    names_all is_due claim_tests is_claim goes_to may_return is_settled had leaves_all token_tests
tokens_from site past s (
  live_,
  (
    alone_,
    (
      epochs_,
      (
        takes_,
        (
          drops_,
          (
            only_,
            (
              returns_,
              (
                free_,
                (
                  right_,
                  (
                    file_,
                    (
                      makes_,
                      (
                        once_,
                        (
                          from_,
                          (
                            apart_,
                            (
                              new_,
                              (
                                was_,
                                (
                                  follows_,
                                  (
                                    asks_,
                                    (
                                      claims_,
                                      (
                                        bye_,
                                        (site_, _),
                                      ),
                                    ),
                                  ),
                                ),
                              ),
                            ),
                          ),
                        ),
                      ),
                    ),
                  ),
                ),
              ),
            ),
          ),
        ),
      ),
    ),
  ),
) = record {
  live = λ x. let p = at_said (λ m. not (is_down m.body)) past x.0 x.1 x.2 Down live_ x.3 in let q = p.1 in cc;
  stops_alone = λ v e n b st p. down_is b (at_sends (λ m. is_down m.body) s v e n b (so (says is_down s) (list_all
      (λ m. is_down m.body) s.sent) alone_ (stops_it s st)) p);
  epochs = λ v e n b p. eqb-true e (epoch_at (s ∷ past) v) (at_sends (λ m. m.epoch == epoch_at (s
      ∷ past) m.server) s v e n b epochs_ p);
  takes = λ t m.
      let p = and_parts (may_take past s.cause t) (not (holds_id past t.id)) (at_all
      (λ t. may_take past s.cause t && not (holds_id past t.id)) s.taken t takes_ m) in
      let q = take_yes past s t p.0 in
      (q.0, q.1, q.2, q.3, λ h. is_not (holds_id past t.id) p.1 (holds_is past t.id h));
  drops = λ t h l. drops_yes s t (so (leaves_it s t.id) (drops_it s t) (at_all (λ t. implies (leaves_it s t.id)
      (drops_it s t)) (hand s past) t drops_ (hand_in s past t h)) (leaves_is s t.id l));
  drops_only = λ t d.
      elim (or_cases (leaves_it s d.0.token.id) (says is_down s) (at_all
      (λ l. leaves_it s l.token.id || says is_down s) s.dropped d.0 only_ d.1)) [
        | inl x ↦ inl (leaves_yes s t.id (subst (λ (u : Token). leaves_it s u.id ≡ true) d.2 x))
        | inr y ↦ inr (stops_yes s y)
      ];
  returns = λ i r.
      elim (or_cases (list_any (λ t. same_id t.id i) (hand s past)) (list_any (same_id i) (recalled past s.cause))
      (at_all (may_return past s) (returned s) i returns_ (returned_in s i r))) [
        | inl x ↦ (let p = some_in (λ t. same_id t.id i) (hand s past) x in inl
            (p.0, in_hand s past p.0 p.1, id_is p.0.id i p.2))
        | inr y ↦ inr (is_recalled past s i y)
      ];
  returns_free = λ i g r m k.
      known_yes (s ∷ past) (number_of g) (so (list_any (same_id i) g.ids) (is_known (s ∷ past) (number_of g))
      (at_all (is_settled (s ∷ past) i) (made (s ∷ past)) g (at_all (λ i. list_all (is_settled (s ∷ past) i) (made (s
      ∷ past))) (returned s) i free_ (returned_in s i r)) (made_in (s ∷ past) g m))
      (any_of (same_id i) g.ids i k (ids i i refl)));
  answers = λ w v e n a.
      elim a [
        | inl p ↦ place_is (s ∷ past) w.fid.fileset (told p.0 v e n (Returned w)) (at_sends (λ m. goes_right (s
            ∷ past) m m.body) s v e n (Returned w) right_ p)
        | inr p ↦ place_is (s ∷ past) w.fid.fileset (told p.0 v e n (Kept w)) (at_sends (λ m. goes_right (s
            ∷ past) m m.body) s v e n (Kept w) right_ p)
      ];
  answers_file = λ w v e n t a h i.
      let all : list_all (λ t. implies (list_any (same_id t.id) w.ids) (same_fid t.fid w.fid)) (hand s past) ≡ true =
      elim a [
        | inl p ↦ at_sends (λ m. of_file (hand s past) m.body) s v e n (Returned w) file_ p
        | inr p ↦ at_sends (λ m. of_file (hand s past) m.body) s v e n (Kept w) file_ p
      ]
      in
      fid_is t.fid w.fid (so (list_any (same_id t.id) w.ids) (same_fid t.fid w.fid) (at_all (λ t. implies (list_any
      (same_id t.id) w.ids) (same_fid t.fid w.fid)) (hand s past) t all (hand_in s past t h)) (any_of
      (same_id t.id) w.ids t.id i (ids t.id t.id refl)));
  makes = λ g i m k.
      let p = some_in (λ t. same_id t.id i && same_fid t.fid g.fid) (hand s past) (at_all (had past s g) g.ids i
      (at_all (λ g. list_all (had past s g) g.ids) s.made g makes_ m) k) in
      let q = and_parts (same_id p.0.id i) (same_fid p.0.fid g.fid) p.2 in
      (p.0, in_hand s past p.0 p.1, id_is p.0.id i q.0, fid_is p.0.fid g.fid q.1);
  makes_once = λ g k i m n a b.
      only_one shares s.made g k once_ m n (any_of (λ i. list_any (same_id i) k.ids) g.ids i a (any_of
      (same_id i) k.ids i b (ids i i refl)));
  makes_from = λ g m. ltb-true 0 g.number (at_all (λ g. nat_lt 0 g.number) s.made g from_ m);
  makes_apart = λ g k m n e. only_one (λ g k. same_number (number_of g) (number_of k)) s.made g k apart_ m n (numbers
      (number_of g) (number_of k) e);
  makes_new = λ g k m n f.
      ltb-true k.number g.number (so (same_fileset k.fid.fileset g.fid.fileset) (nat_lt k.number g.number)
      (at_all (λ k. implies (same_fileset k.fid.fileset g.fid.fileset) (nat_lt k.number g.number)) (made past) k
      (at_all (λ g. list_all (λ k. implies (same_fileset k.fid.fileset g.fid.fileset) (nat_lt k.number g.number))
      (made past)) s.made g new_ m) (made_in past k n))
      (filesets k.fid.fileset g.fid.fileset f));
  gives = λ g v e n p.
      let q = some_in (same_give g) (made (s ∷ past)) (at_sends (λ m. was_made (made (s ∷ past)) m.body) s v e n
      (GiveBack g) was_ p) in (
        in_made (s ∷ past) g (subst (λ x. In x (made (s ∷ past))) (sym (give_is g q.0 q.2)) q.1),
        place_is (s ∷ past) g.fid.fileset (told p.0 v e n (GiveBack g)) (at_sends (λ m. goes_right (s
            ∷ past) m m.body) s v e n (GiveBack g) right_ p),
      );
  gives_first = λ g k v e n p m f l.
      known_yes (s ∷ past) (number_of k) (so (same_fileset k.fid.fileset g.fid.fileset && nat_lt k.number g.number)
      (is_known (s ∷ past) (number_of k))
      (at_all (λ k. implies (same_fileset k.fid.fileset g.fid.fileset && nat_lt k.number g.number) (is_known (s
      ∷ past) (number_of k))) (made (s ∷ past)) k
      (at_sends (λ m. follows (s ∷ past) m.body) s v e n (GiveBack g) follows_ p) (made_in (s ∷ past) k m))
      (and_from (same_fileset k.fid.fileset g.fid.fileset) (nat_lt k.number g.number)
      (filesets k.fid.fileset g.fid.fileset f) (lt-ltb k.number g.number l)));
  fetches = λ f v e n p. (
    place_is (s ∷ past) f.fid.fileset (told p.0 v e n (Fetch f)) (at_sends (λ m. goes_right (s
        ∷ past) m m.body) s v e n (Fetch f) right_ p),
    no_bye site past s asks_ v e n (Fetch f) refl p,
  );
  changes = λ c v e n p. (
    elim (or_cases ((c.fileset.0 == 0) && (n == 0)) (is_place (s ∷ past) c.fileset (told p.0 v e n (Change c)))
        (at_sends (λ m. goes_right (s ∷ past) m m.body) s v e n (Change c) right_ p)) [
          | inl x ↦ (let q = and_parts (c.fileset.0 == 0) (n == 0) x in inl (eqb-true c.fileset.0 0 q.0, eqb-true n 0 q.1))
          | inr y ↦ inr (place_is (s ∷ past) c.fileset (told p.0 v e n (Change c)) y)
        ],
    no_bye site past s asks_ v e n (Change c) refl p,
  );
  claims = λ v e n claim p. claims_from (s ∷ past) v claim (all_true (claim_tests (s ∷ past) v claim) (at_sends
      (λ m. is_claim (s ∷ past) m m.body) s v e n (Reclaim claim) claims_ p));
  bye_held = λ v e n t p o. none_in (owned (s ∷ past)) t (quits site past s bye_ v e n p).0 (owned_in (s ∷ past) t o);
  bye_gives = λ v e n g p m. known_yes (s ∷ past) (number_of g) (at_all (λ g. is_known (s ∷ past) (number_of g))
      (made (s ∷ past)) g (quits site past s bye_ v e n p).1.0 (made_in (s ∷ past) g m));
  bye_asking = λ v e n fs k p a. none_in (asking (s ∷ past)) (numbered fs k) (quits site past s bye_ v e n p).1.1.0
      (asking_in (s ∷ past) fs k a);
  bye_changing = λ v w e n fs k p c. none_in (changing site (s ∷ past)) (numbered fs k)
      (quits site past s bye_ v e n p).1.1.1.0 (at_site site (s ∷ past) w fs k site_ c);
}

pub tokens_meet : (site : ServerId) (past : List Step) (s : Step) → passes (token_tests site past s) ≡ true
    → HostTokens past s
unfolding is_down is_bye says is_place goes_right of_file was_made follows asks shares claimed names_it in_give
    names_all is_due claim_tests is_claim goes_to may_return is_settled had leaves_all token_tests
tokens_meet site past s e = tokens_from site past s (all_true (token_tests site past s) e)
