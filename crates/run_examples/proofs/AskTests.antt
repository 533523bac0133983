-- The rules of asking for a host's step, computed: it greets a server, asks for tokens, asks a server about a call, asks
-- again, or asks nothing.
use Rattle.base_types.specs.Ids.{same_fid}
use Rattle.base_types.specs.declared.ids.Fid.{Fid}
use Rattle.base_types.specs.declared.ids.FilesetId.{FilesetId}
use Rattle.base_types.specs.declared.ids.HostId.{HostId}
use Rattle.base_types.specs.declared.ids.ServerId.{ServerId}
use Rattle.base_types.specs.declared.user.User.{User}
use Rattle.tree_calls.specs.Rosters.{user_of}
use Rattle.tree_calls.specs.declared.call.Call.{Call}
use Rattle.tree_calls.specs.declared.roster.Roster.{Roster}
use Rattle.need_host.specs.Calls.{Verdict}
use Rattle.need_host.specs.Calls.Verdict.{Asks}
use Rattle.need_host.specs.Looks.{IsFirstLack}
use Rattle.need_host.specs.Questions.{Question, numbered_under}
use Rattle.need_host.specs.Questions.Question.{ChangeIn}
use Rattle.need_host.specs.Walks.{root_of}
use Rattle.tree_objects.specs.Spans.{whole}
use Rattle.message_types.specs.Soundness.{no_fid}
use Rattle.message_types.specs.declared.asking.Change.{Change as ChangeOf}
use Rattle.message_types.specs.declared.asking.Fetch.{Fetch as FetchOf}
use Rattle.message_types.specs.declared.giving.AppliedGive.{AppliedGive}
use Rattle.message_types.specs.declared.message.Body.{Body}
use Rattle.message_types.specs.declared.message.Body.TheVariants.{Change, Fetch, Hello}
use Rattle.message_types.specs.declared.message.Message.{Message}
use Rattle.run_examples.proofs.AnswerChecks.{call_is, cover_all, covers_it, covers_yes, lacks_is, lacks_it, needs_at}
use Rattle.run_examples.proofs.AnswerChecks.{same_call, verdict_at}
use Rattle.run_examples.proofs.AskChecks.{again, asks_again, awaits, is_gives, is_open_give, lack_waits, one_of}
use Rattle.run_examples.proofs.AskChecks.{one_or_none, waits_right}
use Rattle.run_examples.proofs.CallWords.{in_open, open_calls, open_in}
use Rattle.run_examples.proofs.FetchChecks.{fetch_is, fetch_right, fetched_is, is_before, is_below, is_fetched}
use Rattle.run_examples.proofs.FetchChecks.{next_is, next_tests, not_dir, not_true, sees_dir, status_need}
use Rattle.run_examples.proofs.FetchWords.{need_is, one_number, one_number_of, same_need}
use Rattle.run_examples.proofs.LabelWords.{is_local}
use Rattle.run_examples.proofs.LapseChecks.{hello_body, is_hello}
use Rattle.run_examples.proofs.StanceChecks.{stance_of, stance_tests}
use Rattle.run_examples.proofs.Tests.{all_true, at_all, bool_is, fid_is, fileset_is, filesets, is_none, is_not}
use Rattle.run_examples.proofs.Tests.{list_is, none_in, passes, same_bool, same_fileset, same_list, same_server}
use Rattle.run_examples.proofs.Tests.{is_use_kind, server_is, servers, some_in, use_kind_yes}
use Rattle.run_examples.proofs.TokenChecks.{asks, at_site}
use Rattle.run_examples.proofs.Words.{asking, asking_in, at_said, at_sends, changing, held, in_asking, in_changing}
use Rattle.run_examples.proofs.Words.{in_said, is_welcome, none_open, none_open_yes, numbered, said, told}
use Rattle.run_examples.proofs.Words.{welcome_is, welcome_yes}
use Rattle.run_examples.specs.Laws.{writing}
use Rattle.run_examples.specs.Steps.{needs}
use Rattle.std.proofs.Common.{Bool, List, None, Option, Some, [], ap, false, inl, inr, refl, subst, sym, true, ℕ}
use Rattle.std.proofs.Common.{◌&&◌, ◌==◌, ◌||◌, ◌∷◌, ◌≡◌, ◌⊎◌}
use Rattle.std.proofs.lemmas.Bool.{and_parts, eqb-true, or_cases}
use Rattle.std.specs.List.{list_all, list_any}
use Rattle.std.specs.Prelude.{if◌then◌else◌, not}
use Rattle.token_types.specs.declared.token.Kind.{Kind}
use Rattle.token_types.specs.declared.token.Kind.TheVariants.{Bytes, Lock as LockToken, Opening}
use Rattle.token_types.specs.declared.token.Need.{Need}
use Rattle.token_types.specs.declared.token.Token.{Token}
use Rattle.tree_laws.specs.Parts.Part.{Traits}
use Rattle.run_rules.specs.HostAsks.{AsksServer, FetchNeeds, GoesTo, HostAsks, IsNewChange, IsNewFetch}
use Rattle.run_rules.specs.HostAsks.FetchNeeds.{OfDirectory}
use Rattle.run_rules.specs.Messages.{Asking, Changing, HasGreeted, IsWelcome, Said, Sends, stay_of}
use Rattle.run_rules.specs.Past.{In}
use Rattle.run_rules.specs.Tokens.{IsOpen, IsUseKind}
use Rattle.run_rules.specs.Views.{Stance, is_entering, sees, stay_asked}
use Rattle.run_rules.specs.declared.step.Asked.{Asked as AskedCall}
use Rattle.run_rules.specs.declared.step.Cause.TheVariants.{Lapse}
use Rattle.run_rules.specs.declared.step.Step.{Step}

-- the first need that tokens lack
unfoldable pub lack_of : List Token → List Need → Option Need
lack_of kept [] = None
lack_of kept (n ∷ ns) = if lacks_it kept n then Some n else if covers_it kept n then lack_of kept ns else None

unfoldable pub lacks_such : Option Need → (Need → Bool) → Bool
lacks_such None test = false
lacks_such (Some need) test = test need

unfoldable pub asks_question : Verdict → (Question → Bool) → Bool
asks_question (Asks question) test = test question
asks_question _ test = false

unfoldable pub asks_at : ServerId → HostId → User → List Step → Step → Call → (Question → Fid → Bool) → Bool
asks_at site host user past s call test =
    (asks_question (verdict_at site host user past s call) (λ q. test q no_fid)
    && list_all (covers_it (held (s ∷ past))) (needs_at site host user past s call))
    || lacks_such (lack_of (held (s ∷ past)) (needs_at site host user past s call))
    (λ n. is_use_kind n.kind && test (ChangeIn n.fid.fileset) n.fid)

unfoldable pub goes_at : ServerId → HostId → User → List Step → Step → Call → ServerId → Bool
goes_at site host user past s call v =
    lacks_such (lack_of (held (s ∷ past)) (needs_at site host user past s call))
    (λ n. same_server (stay_of (s ∷ past) n.fid.fileset).server v)
    || asks_at site host user past s call (λ q fid. same_server (stay_asked (s ∷ past) q).server v)

-- no Hello was sent to the server
unfoldable pub is_no_hello : ServerId → Message → Bool
is_no_hello v k = not (is_hello k.body && same_server k.server v)

unfoldable pub greets_right : ServerId → HostId → User → List Step → Step → Message → Bool
greets_right site host user past s m =
    (not (is_welcome (s ∷ past) m.server) && list_all (is_no_hello m.server) (said past))
    && list_any (λ (c : AskedCall). goes_at site host user past s c.call m.server) (open_calls site (s ∷ past))

-- of a directory the status and all entries are asked for together
unfoldable pub asks_root : Fid → List Need → Bool
asks_root fid asked =
    same_fid fid (root_of fid.fileset)
    && same_list same_need asked (status_need fid ∷ record { fid = fid; kind = Bytes false whole } ∷ [])

unfoldable pub asks_file : List Step → Step → List Need → FetchOf → Bool
asks_file past s needs f =
    fetch_right (s ∷ past) (held (s ∷ past)) needs f.fid f.needs
    && (not (same_fid f.fid (root_of f.fid.fileset)) && not (sees_dir (sees past s f.fid Traits)))

unfoldable pub lacks_for : ServerId → HostId → User → List Step → Step → FetchOf → AskedCall → Bool
lacks_for site host user past s f c =
    lacks_such (lack_of (held (s ∷ past)) (needs_at site host user past s c.call))
    (λ n. is_fetched n.kind && same_fid n.fid f.fid)
    && (asks_root f.fid f.needs || asks_file past s (needs_at site host user past s c.call) f)

unfoldable pub fetch_new : ServerId → HostId → User → List Step → Step → FetchOf → Bool
fetch_new site host user past s f =
    (passes (next_tests past f) && none_open (s ∷ past) f.fid)
    && list_any (lacks_for site host user past s f) (open_calls site (s ∷ past))

-- a Change is the first of its fileset
unfoldable pub is_other_change : ChangeOf → Body → Bool
is_other_change c (Change d) = not (same_fileset d.fileset c.fileset)
is_other_change c _ = true

unfoldable pub goes_as_asked : List Step → Message → ChangeOf → Question → Fid → Bool
goes_as_asked now m c q fid =
    (same_fid c.fid fid && same_bool c.enter (is_entering q))
    && (same_fileset c.fileset (numbered_under q)
    && (same_server (stay_asked now q).server m.server && ((stay_asked now q).moves == m.moves)))

unfoldable pub change_new : ServerId → HostId → User → List Step → Step → Message → ChangeOf → Bool
change_new site host user past s m c =
    ((c.number == 1) && list_all (λ k. is_other_change c k.body) (said past))
    && (list_any (λ (o : AskedCall). (o.k == c.k) && same_call o.call c.call) (open_calls site (s ∷ past))
    && asks_at site host user past s c.call (goes_as_asked (s ∷ past) m c))

unfoldable pub asked_right : ServerId → HostId → User → List Step → Step → Message → Body → Bool
asked_right site host user past s m Hello = greets_right site host user past s m
asked_right site host user past s m (Fetch f) = asks_again past (Fetch f) || fetch_new site host user past s f
asked_right site host user past s m (Change c) = change_new site host user past s m c
asked_right site host user past s m _ = true

-- the open call waits to be welcome at its server
unfoldable pub waits_welcome : ServerId → HostId → User → List Step → Step → AskedCall → Bool
waits_welcome site host user past s c =
    goes_at site host user past s c.call site
    && (list_any (λ m. is_hello m.body && same_server m.server site) (said (s ∷ past)) && not (is_welcome (s ∷ past) site))

unfoldable pub asking_tests : ServerId → HostId → User → List Step → Step → List Bool
asking_tests site host user past s =
    list_all (λ m. asked_right site host user past s m m.body) s.sent
    ∷ one_number (asking (s ∷ past))
    ∷ one_or_none (changing site (s ∷ past))
    ∷ (is_none (asking (s ∷ past)) || is_none (changing site (s ∷ past)))
    ∷ list_all (λ c. (not (is_none (asking (s ∷ past))) || not (is_none (changing site (s ∷ past))))
    || (waits_right site host user past s c || waits_welcome site host user past s c)) (open_calls site (s ∷ past))
    ∷ list_all (λ m. is_welcome (s ∷ past) m.server || not (asks m.body)) s.sent
    ∷ is_local site (s ∷ past)
    ∷ []

unfoldable pub ask_words : ℕ
unfolding lack_of lacks_such asks_question asks_at goes_at is_no_hello greets_right asks_root asks_file lacks_for fetch_new
    is_other_change goes_as_asked change_new asked_right waits_welcome asking_tests is_use_kind asks_again is_gives
    is_open_give lack_waits waits_right one_or_none next_tests fetch_right sees_dir is_fetched is_below is_before
ask_words = 0

lack_yes : (kept : List Token) (needs : List Need) (test : Need → Bool) → lacks_such (lack_of kept needs) test ≡ true
    → (n : Need) × IsFirstLack kept needs n × (test n ≡ true)
unfolding ask_words
lack_yes kept [] test e = absurd (cc)
lack_yes kept (n ∷ ns) test e = go (lack_yes kept ns test) (lacks_it kept n) refl (covers_it kept n) refl e
  where
    go : (lacks_such (lack_of kept ns) test ≡ true → (k : Need) × IsFirstLack kept ns k × (test k ≡ true)) → (b : Bool) → lacks_it kept n ≡ b → (c : Bool) → covers_it kept n ≡ c
        → lacks_such (if b then Some n else if c then lack_of kept ns else None) test ≡ true
        → (k : Need) × IsFirstLack kept (n ∷ ns) k × (test k ≡ true)
    go more true p c q e = (n, inl (lacks_is kept n p, refl), e)
    go more false p true q e =
        let r = more e in (r.0, inr (covers_yes kept n q, r.1), r.2)
    go more false p false q e = absurd (cc)

question_yes : (v : Verdict) (test : Question → Bool) → asks_question v test ≡ true
    → (q : Question) × (v ≡ Asks q) × (test q ≡ true)
unfolding ask_words
question_yes (Asks q) test e = (q, refl, e)
question_yes v test e = absurd (cc)

root_is : (past : List Step) (s : Step) (held : List Token) (needs : List Need) (fid : Fid) (asked : List Need)
    → asks_root fid asked ≡ true → FetchNeeds past s held needs fid asked
unfolding ask_words
root_is past s held needs fid asked e =
    let all_ = status_need fid ∷ record { fid = fid; kind = Bytes false whole } ∷ [] in
    let p = and_parts (same_fid fid (root_of fid.fileset)) (same_list same_need asked all_) e in
    OfDirectory (inl (fid_is fid (root_of fid.fileset) p.0)) (list_is same_need need_is asked all_ p.1)

module _ (site : ServerId) (roster : Roster) (host : HostId) (user : User) (past : List Step) (s : Step)
    (acts : user_of roster host ≡ Some user) (known : passes (stance_tests site host past s) ≡ true) where
  abbrev its : Stance roster host past s
  its = stance_of site roster host user past s acts known

  at_yes : (call : Call) (test : Question → Fid → Bool) → asks_at site host user past s call test ≡ true
      → (q : Question) × (fid : Fid) × AsksServer roster host past s its call q fid × (test q fid ≡ true)
  unfolding asks_at is_use_kind
  at_yes call test e =
      let needs = needs_at site host user past s call in
      let a = asks_question (verdict_at site host user past s call) (λ q. test q no_fid) in
      let b = list_all (covers_it (held (s ∷ past))) needs in
      let both = λ (n : Need). is_use_kind n.kind && test (ChangeIn n.fid.fileset) n.fid in
      elim (or_cases (a && b) (lacks_such (lack_of (held (s ∷ past)) needs) both) e) [
        | inl x ↦ (
            let p = and_parts a b x in
            let q = question_yes (verdict_at site host user past s call) (λ q. test q no_fid) p.0 in
            (q.0, no_fid, inl (q.1, cover_all (held (s ∷ past)) needs p.1, refl), q.2)
            )
        | inr x ↦ (
            let r = lack_yes (held (s ∷ past)) needs both x in
            let p = and_parts (is_use_kind r.0.kind) (test (ChangeIn r.0.fid.fileset) r.0.fid) r.2 in
            (ChangeIn r.0.fid.fileset, r.0.fid, inr (r.0, r.1, use_kind_yes r.0.kind p.0, refl, refl), p.1)
            )
      ]

  goes_yes : (call : Call) (v : ServerId) → goes_at site host user past s call v ≡ true
      → GoesTo roster host past s its call v
  unfolding goes_at
  goes_yes call v e =
      let needs = needs_at site host user past s call in
      let near = λ (n : Need). same_server (stay_of (s ∷ past) n.fid.fileset).server v in
      let far = λ (q : Question) (fid : Fid). same_server (stay_asked (s ∷ past) q).server v in
      elim (or_cases (lacks_such (lack_of (held (s ∷ past)) needs) near) (asks_at site host user past s call far) e) [
        | inl x ↦ (
            let r = lack_yes (held (s ∷ past)) needs near x in
            inl (r.0, r.1, server_is (stay_of (s ∷ past) r.0.fid.fileset).server v r.2)
            )
        | inr x ↦ (
            let r = at_yes call far x in
            inr (r.0, r.1, r.2, server_is (stay_asked (s ∷ past) r.0).server v r.3)
            )
      ]

  fetch_yes : (f : FetchOf) → is_local site (s ∷ past) ≡ true → fetch_new site host user past s f ≡ true
      → IsNewFetch roster host past s its f
  unfolding fetch_new lacks_for asks_file
  fetch_yes f local e =
      let some_ = list_any (lacks_for site host user past s f) (open_calls site (s ∷ past)) in
      let p = and_parts (passes (next_tests past f) && none_open (s ∷ past) f.fid) some_ e in
      let q = and_parts (passes (next_tests past f)) (none_open (s ∷ past) f.fid) p.0 in
      let c = some_in (lacks_for site host user past s f) (open_calls site (s ∷ past)) p.1 in
      let needs = needs_at site host user past s c.0.call in
      let of_ = λ (n : Need). is_fetched n.kind && same_fid n.fid f.fid in
      let r = and_parts (lacks_such (lack_of (held (s ∷ past)) needs) of_) (asks_root f.fid f.needs || asks_file past s
      needs f) c.2 in
      let n = lack_yes (held (s ∷ past)) needs of_ r.0 in
      let k = and_parts (is_fetched n.0.kind) (same_fid n.0.fid f.fid) n.2 in
      record {
        next = next_is past f q.0;
        no_give = none_open_yes (s ∷ past) f.fid q.1;
        call = c.0;
        is_open = in_open site (s ∷ past) c.0 local c.1;
        need = n.0;
        fetched = fetched_is n.0.kind k.0;
        file = fid_is n.0.fid f.fid k.1;
        first = n.1;
        needs = elim (or_cases (asks_root f.fid f.needs) (asks_file past s needs f) r.1) [
          | inl x ↦ root_is past s (held (s ∷ past)) needs f.fid f.needs x
          | inr x ↦ (
              let dirs = not (same_fid f.fid (root_of f.fid.fileset)) && not (sees_dir (sees past s f.fid Traits)) in
              let a = and_parts (fetch_right (s ∷ past) (held (s ∷ past)) needs f.fid f.needs) dirs x in
              let b = and_parts (not (same_fid f.fid (root_of f.fid.fileset))) (not (sees_dir (sees past s f.fid Traits)))
              a.1 in
              fetch_is past s (held (s ∷ past)) needs f.fid f.needs
              (not_dir past s (held (s ∷ past)) f.fid (not_true (same_fid f.fid (root_of f.fid.fileset)) b.0)
              (not_true (sees_dir (sees past s f.fid Traits)) b.1)) a.0
              )
        ];
      }

  change_yes : (m : Message) (c : ChangeOf) → is_local site (s ∷ past) ≡ true
      → change_new site host user past s m c ≡ true → IsNewChange roster host past s its m.server m.moves c
  unfolding change_new goes_as_asked is_other_change
  change_yes m c local e =
      let such = λ (o : AskedCall). (o.k == c.k) && same_call o.call c.call in
      let first_ = list_all (λ k. is_other_change c k.body) (said past) in
      let open_ = list_any such (open_calls site (s ∷ past)) in
      let asks_ = asks_at site host user past s c.call (goes_as_asked (s ∷ past) m c) in
      let p = and_parts ((c.number == 1) && first_) (open_ && asks_) e in
      let q = and_parts (c.number == 1) first_ p.0 in
      let r = and_parts open_ asks_ p.1 in
      let o = some_in such (open_calls site (s ∷ past)) r.0 in
      let k = and_parts (o.0.k == c.k) (same_call o.0.call c.call) o.2 in
      let same_k = eqb-true o.0.k c.k k.0 in
      let same_c = call_is o.0.call c.call k.1 in
      let a = at_yes c.call (goes_as_asked (s ∷ past) m c) r.1 in
      let place_ = stay_asked (s ∷ past) a.0 in
      let y = same_fileset c.fileset (numbered_under a.0) && (same_server place_.server m.server &&
      (place_.moves == m.moves)) in
      let b = and_parts (same_fid c.fid a.1 && same_bool c.enter (is_entering a.0)) y a.3 in
      let b1 = and_parts (same_fid c.fid a.1) (same_bool c.enter (is_entering a.0)) b.0 in
      let b2 = and_parts (same_fileset c.fileset (numbered_under a.0)) (same_server place_.server m.server &&
      (place_.moves == m.moves)) b.1 in
      let b3 = and_parts (same_server place_.server m.server) (place_.moves == m.moves) b2.1 in
      let at_server = server_is place_.server m.server b3.0 in
      let at_moves = eqb-true place_.moves m.moves b3.1 in
      record {
        next = record {
          above = λ n (d, (v, f, w, x, home_), files, number). absurd (
              let z = at_said (λ k. is_other_change c k.body) past v f w (Change d) q.1 x in
              is_not (same_fileset d.fileset c.fileset) z.1 (filesets d.fileset c.fileset files));
          after = inl (eqb-true c.number 1 q.0);
        };
        is_open = subst (λ (z : AskedCall). IsOpen (s ∷ past) z) (λ i. record { k = same_k i; call = same_c i })
            (in_open site (s ∷ past) o.0 local o.1);
        question = a.0;
        asks = subst (λ fid. AsksServer roster host past s its c.call a.0 fid) (sym (fid_is c.fid a.1 b1.0)) a.2;
        enters = bool_is c.enter (is_entering a.0) b1.1;
        numbered = fileset_is c.fileset (numbered_under a.0) b2.0;
        goes = λ i. record { server = at_server i; moves = at_moves i };
      }

  no_hello : (v : ServerId) → list_all (is_no_hello v) (said past) ≡ true → HasGreeted past v → ⊥
  unfolding is_no_hello is_hello
  no_hello v t (e, n, x) =
      let p = at_said (is_no_hello v) past v e n Hello t x in
      is_not (same_server v v) p.1 (servers v v refl)

  has_hello : (now : List Step) (v : ServerId) → list_any (λ m. is_hello m.body && same_server m.server v) (said now) ≡ true
      → HasGreeted now v
  has_hello now v e =
      let p = some_in (λ (m : Message). is_hello m.body && same_server m.server v) (said now) e in
      let q = and_parts (is_hello p.0.body) (same_server p.0.server v) p.2 in (
        p.0.epoch,
        p.0.moves,
        subst (λ (x : ServerId × Body). Said now x.0 p.0.epoch p.0.moves x.1)
            (let a = server_is p.0.server v q.1 in let b = hello_body p.0.body q.0 in λ i. (a i, b i))
            (in_said now p.0 p.1),
      )

  welcome_at : (v : ServerId) (b : Body) → asks b ≡ true → (is_welcome (s ∷ past) v || not (asks b)) ≡ true
      → IsWelcome (s ∷ past) v
  welcome_at v b is t =
      elim (or_cases (is_welcome (s ∷ past) v) (not (asks b)) t) [
        | inl x ↦ welcome_yes (s ∷ past) v x
        | inr x ↦ absurd (is_not (asks b) x is)
      ]

  some_asked : not (is_none (asking (s ∷ past))) ≡ true → (fs : FilesetId) × (n : ℕ) × Asking (s ∷ past) fs n
  some_asked t = go (asking (s ∷ past)) refl t
    where
      go : (xs : List AppliedGive) → asking (s ∷ past) ≡ xs → not (is_none xs) ≡ true
          → (fs : FilesetId) × (n : ℕ) × Asking (s ∷ past) fs n
      go [] is e = absurd (cc)
      go (x ∷ xs) is e =
          (x.fileset, x.number, in_asking (s ∷ past) x.fileset x.number (subst (In x) (sym is) (inl refl)))

  some_changed : not (is_none (changing site (s ∷ past))) ≡ true
      → (v : ServerId) × (fs : FilesetId) × (n : ℕ) × Changing (s ∷ past) v fs n
  some_changed t = go (changing site (s ∷ past)) refl t
    where
      go : (xs : List AppliedGive) → changing site (s ∷ past) ≡ xs → not (is_none xs) ≡ true
          → (v : ServerId) × (fs : FilesetId) × (n : ℕ) × Changing (s ∷ past) v fs n
      go [] is e = absurd (cc)
      go (x ∷ xs) is e =
          (site, x.fileset, x.number, in_changing (s ∷ past) site x.fileset x.number (subst (In x) (sym is) (inl refl)))

  pub all_asked : passes (asking_tests site host user past s) ≡ true
      → HostAsks roster host past s (stance_of site roster host user past s acts known)
  unfolding asking_tests asked_right greets_right waits_welcome asks said is_local waits_right
  all_asked e =
      let t = all_true (asking_tests site host user past s) e in
      let local = t.1.1.1.1.1.1.0 in
      let none_a = is_none (asking (s ∷ past)) in
      let none_c = is_none (changing site (s ∷ past)) in
      record {
        fetches = λ f (v, e, n, p).
            elim (or_cases (asks_again past (Fetch f)) (fetch_new site host user past s f)
            (at_sends (λ m. asked_right site host user past s m m.body) s v e n (Fetch f) t.0 p)) [
              | inl x ↦ inl (again site roster host user past s acts known f x)
              | inr x ↦ inr (fetch_yes f local x)
            ];
        changes = λ v e n c p.
            inr (change_yes (told p.0 v e n (Change c)) c local
            (at_sends (λ m. asked_right site host user past s m m.body) s v e n (Change c) t.0 p));
        one_fetch = λ fs gs n m a b.
            let p = one_number_of (asking (s ∷ past)) (numbered fs n) (numbered gs m) t.1.0 (asking_in (s ∷ past) fs n a)
            (asking_in (s ∷ past) gs m b) in
            (ap (λ (x : AppliedGive). x.fileset) p, ap (λ (x : AppliedGive). x.number) p);
        one_change = λ v w fs gs n m a b.
            let p = one_of (changing site (s ∷ past)) (numbered fs n) (numbered gs m) t.1.1.0 (at_site site (s
            ∷ past) v fs n local a) (at_site site (s ∷ past) w gs m local b) in
            (ap (λ (x : AppliedGive). x.fileset) p, ap (λ (x : AppliedGive). x.number) p);
        one_of_both = λ v fs gs n m a b.
            elim (or_cases none_a none_c t.1.1.1.0) [
              | inl x ↦ none_in (asking (s ∷ past)) (numbered fs n) x (asking_in (s ∷ past) fs n a)
              | inr x ↦ none_in (changing site (s ∷ past)) (numbered gs m) x (at_site site (s ∷ past) v gs m local b)
            ];
        fetches_welcome = λ v e n f p. welcome_at v (Fetch f) (asks_f f)
            (at_sends (λ m. is_welcome (s ∷ past) m.server || not (asks m.body)) s v e n (Fetch f) t.1.1.1.1.1.0 p);
        changes_welcome = λ v e n c p. welcome_at v (Change c) (asks_c c)
            (at_sends (λ m. is_welcome (s ∷ past) m.server || not (asks m.body)) s v e n (Change c) t.1.1.1.1.1.0 p);
        asks = λ call o up.
            let w = waits_right site host user past s call || waits_welcome site host user past s call in
            let test = λ (c : AskedCall). (not none_a || not none_c) || (waits_right site host user past s c ||
            waits_welcome site host user past s c) in
            elim (or_cases (not none_a || not none_c) w (at_all test (open_calls site (s ∷ past)) call t.1.1.1.1.0
            (open_in site (s ∷ past) call local o))) [
              | inl x ↦ elim (or_cases (not none_a) (not none_c) x) [
                | inl y ↦ inl (some_asked y)
                | inr y ↦ inr (inl (some_changed y))
              ]
              | inr x ↦ elim (or_cases (waits_right site host user past s call) (waits_welcome site host user past s call) x) [
                | inl y ↦ inr (inr (inl (awaits site roster host user past s acts known call.call y)))
                | inr y ↦ (
                    let hello_ = list_any (λ m. is_hello m.body && same_server m.server site) (said (s ∷ past)) in
                    let p = and_parts (goes_at site host user past s call.call site) (hello_ &&
                    not (is_welcome (s ∷ past) site)) y in
                    let q = and_parts hello_ (not (is_welcome (s ∷ past) site)) p.1 in
                    inr (inr (inr (
                      site,
                      goes_yes call.call site p.0,
                      has_hello (s ∷ past) site q.0,
                      λ w. is_not (is_welcome (s ∷ past) site) q.1 (welcome_is (s ∷ past) site w),
                    )))
                    )
              ]
            ];
      }
    where
      asks_f : (f : FetchOf) → asks (Fetch f) ≡ true
      asks_f f = refl

      asks_c : (c : ChangeOf) → asks (Change c) ≡ true
      asks_c c = refl

  pub greets_right_at : passes (asking_tests site host user past s) ≡ true → (v : ServerId) (e n : ℕ)
      → Sends s v e n Hello → (IsWelcome (s ∷ past) v → ⊥)
      × (((s.cause ≡ Lapse) × HasGreeted past v)
      ⊎ ((HasGreeted past v → ⊥)
      × ((call : AskedCall) × IsOpen (s ∷ past) call
      × GoesTo roster host past s (stance_of site roster host user past s acts known) call.call v)))
  unfolding asking_tests asked_right greets_right waits_welcome asks said is_local waits_right
  greets_right_at e v d n p =
      let t = all_true (asking_tests site host user past s) e in
      let local = t.1.1.1.1.1.1.0 in
      let m = told p.0 v d n Hello in
      let calls = list_any (λ (c : AskedCall). goes_at site host user past s c.call v) (open_calls site (s ∷ past)) in
      let x = and_parts (not (is_welcome (s ∷ past) v) && list_all (is_no_hello v) (said past)) calls
      (at_sends (λ m. asked_right site host user past s m m.body) s v d n Hello t.0 p) in
      let y = and_parts (not (is_welcome (s ∷ past) v)) (list_all (is_no_hello v) (said past)) x.0 in
      let c = some_in (λ (c : AskedCall). goes_at site host user past s c.call v) (open_calls site (s ∷ past)) x.1 in (
        λ w. is_not (is_welcome (s ∷ past) v) y.0 (welcome_is (s ∷ past) v w),
        inr (no_hello v y.1, (c.0, in_open site (s ∷ past) c.0 local c.1, goes_yes c.0.call v c.2)),
      )
