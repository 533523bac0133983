-- The host of the small run meets all its rules in each of its steps.
use Rattle.std.proofs.Common.{Bool, List, None, Option, Some, [], ap, arith, codes, eqb-true, false, if◌then◌else◌}
use Rattle.std.proofs.Common.{inl, inr, length, refl, subst, suc, sym, true, ℕ, ◌&&◌, ◌<◌, ◌≤◌, ◌==◌, ◌↔◌, ◌∙◌, ◌∷◌, ◌≡◌, ◌⊎◌}
use Rattle.std.specs.Prelude.{nat_eq}
use Rattle.base_types.specs.Name.{same_name}
use Rattle.base_types.specs.declared.ids.Fid.{Fid}
use Rattle.base_types.specs.declared.ids.FilesetId.{FilesetId}
use Rattle.base_types.specs.declared.ids.ServerId.{ServerId}
use Rattle.need_host.specs.Calls.{Own, call_look, reply_now, stat_look}
use Rattle.need_host.specs.Looks.{IsCovered}
use Rattle.need_host.specs.Questions.{fileset_of}
use Rattle.message_types.specs.Soundness.{no_fid}
use Rattle.token_types.specs.declared.token.Token.{Token}
use Rattle.token_types.specs.declared.token.TokenId.{TokenId}
use Rattle.run_tokens.proofs.Plain.{IsPlain, IsYoung, young_first, young_more, few, may, gives, revoked, resends, leaves, ends, ended_made}
use Rattle.run_rules.specs.HostAsks.{FirstLack, GoesTo, HasChanged, HostAsks, IsNewChange, IsNewFetch}
use Rattle.run_rules.specs.HostAsks.FetchNeeds.{OfDirectory}
use Rattle.run_rules.specs.HostMay.{CanAnswer, HostAnswers, HostLines, HostMay}
use Rattle.run_rules.specs.HostTokens.{HasUnused, HostTakes, HostTokens}
use Rattle.run_rules.specs.Messages.{About, Asking, Changing, Comes, ComesIn, DoneComes, HasGreeted, IsWelcome, Said}
use Rattle.run_rules.specs.Messages.{Sends, Stay, Stops, epoch_at, home, stay_of}
use Rattle.run_rules.specs.Past.{In}
use Rattle.run_rules.specs.Steps.{lines_of, servers_of}
use Rattle.run_rules.specs.Tokens.{AboveFloor, AnswersRequest, AtHand, BeginsCall, CallGoesOn, CauseEnds, HasCall}
use Rattle.run_rules.specs.Tokens.{Held, HoldsId, IsOpen, Uses, end_call, end_of}
use Rattle.run_rules.specs.Views.{Entered, Enters, HasLabel, IsClean, IsDirtyUnder, KnowsItself, NeedsServer, Stance}
use Rattle.run_rules.specs.Views.{UpdatesStatus, look_of, sees, verdict_in}
use Rattle.run_tokens.specs.JournalWorked.{owner, roster, script}
use Rattle.run_tokens.specs.Worked.{answer, asks_for, client, enter, entered, enters, facts, fetches, from_cache}
use Rattle.run_tokens.specs.Worked.{granted, greets, root, site_one, stat, takes, to_host, to_server, token, welcome}
use Rattle.run_rules.specs.declared.step.Step.{Step}
use Rattle.tree_objects.specs.Spans.{whole}
use Rattle.std.specs.Cmp.Lexicographic.{pointwise}
use Rattle.std.proofs.lemmas.Bool.{and_parts}
use Rattle.run_rules.specs.declared.step.Cause.TheVariants.{Message as Came, Line, Evict, Flushed, Restart}
use Rattle.message_types.specs.declared.message.Body.TheVariants.{Hello, Fetch, Grant, Change, Done, Revoke, Reclaimed, Restarted, Down}
use Rattle.message_types.specs.declared.message.Body.{Body}
use Rattle.message_types.specs.declared.message.Message.{Message}
use Rattle.message_types.specs.declared.tokens.Revoke.{Revoke as RevokeOf}
use Rattle.message_types.specs.declared.giving.Reclaimed.{Reclaimed as ReclaimedOf}
use Rattle.message_types.specs.declared.telling.Bring.{Bring}
use Rattle.message_types.specs.declared.telling.Done.{Done as DoneOf}
use Rattle.message_types.specs.declared.telling.DoneIs.TheVariants.{Known, Reply as HasReply}
use Rattle.message_types.specs.declared.telling.Grant.{Grant as GrantOf}
use Rattle.message_types.specs.declared.asking.Fetch.{Fetch as FetchOf}
use Rattle.message_types.specs.declared.asking.Change.{Change as ChangeOf}
use Rattle.run_rules.specs.declared.step.Asked.{Asked}
use Rattle.run_rules.specs.declared.step.Labelled.{Labelled}
use Rattle.run_rules.specs.declared.applied.Answer.{Answer}
use Rattle.base_types.specs.declared.ids.Node.TheVariants.{Host}
use Rattle.tree_calls.specs.declared.call.Call.{Call}
use Rattle.tree_calls.specs.declared.call.Call.TheVariants.{Sync}
use Rattle.tree_calls.specs.declared.reply.Reply.{Reply}
use Rattle.need_host.specs.Calls.Verdict.{Replies, Asks}
use Rattle.need_host.specs.Questions.Question.{EnterAt}
use Rattle.token_types.specs.declared.token.Kind.{Kind}
use Rattle.token_types.specs.declared.token.Kind.TheVariants.{Bytes, Status, Lock, Opening}
use Rattle.script_lines.specs.declared.script.Deed.TheVariants.{Call as MakesCall}

abbrev pub one : List Step
one = greets ∷ []

abbrev pub two : List Step
two = enters ∷ one

abbrev pub three : List Step
three = fetches whole ∷ two

abbrev pub four : List Step
four = takes whole ∷ three

abbrev pub five : List Step
five = from_cache ∷ four

abbrev pub first : Token
first = token 1 (Status false)

abbrev pub second : Token
second = token 2 (Bytes false whole)

-- where the root's fileset is
abbrev pub here : Stay
here = record { server = site_one; moves = 0 }

pub at_here : stay_of [] root.fileset ≡ here
unfolding home
at_here = refl

pub at_one : home root.fileset ≡ site_one
unfolding home
at_one = refl

-- the message that comes to a step is its cause
pub its_message : (s : Step) (m : Message) (v : ServerId) (e n : ℕ) (b : Body) → s.cause ≡ Came m → ComesIn s v e n b
    → (m.server ≡ v) × (m.epoch ≡ e) × (m.moves ≡ n) × (m.body ≡ b)
its_message s m v e n b at c =
    let p : Came m ≡ Came c.0 = sym at ∙ c.1 in
    let q : m ≡ c.0 = cc in
    (ap (λ (x : Message). x.server) q ∙ c.2, ap (λ (x : Message). x.epoch) q ∙ c.3, ap (λ (x : Message). x.moves) q ∙ c.4, ap (λ (x : Message). x.body) q ∙ c.5)

pub its_body : (s : Step) (m : Message) (v : ServerId) (e n : ℕ) (b : Body) → s.cause ≡ Came m → ComesIn s v e n b → m.body ≡ b
its_body s m v e n b at c = (its_message s m v e n b at c).3

pub no_line : (s : Step) (k : ℕ) (v : ServerId) (e n : ℕ) (b : Body) → s.cause ≡ Line k → ComesIn s v e n b → ⊥
no_line s k v e n b at c = let p = c.1 in cc

-- what a step sends that sends one message
pub sent_one : (s : Step) (n : ℕ) (body : Body) → s.sent ≡ to_server n body ∷ [] → (v : ServerId) (e k : ℕ) (b : Body) → Sends s v e k b
    → (site_one ≡ v) × (n ≡ e) × (0 ≡ k) × (body ≡ b)
sent_one s n body is v e k b (m, i, at, epoch_is, moves_is, body_is) = go (subst (In m) is i)
  where
    go : In m (to_server n body ∷ []) → (site_one ≡ v) × (n ≡ e) × (0 ≡ k) × (body ≡ b)
    go (inl p) = (
      ap (λ (x : Message). x.server) (sym p) ∙ at,
      ap (λ (x : Message). x.epoch) (sym p) ∙ epoch_is,
      ap (λ (x : Message). x.moves) (sym p) ∙ moves_is,
      ap (λ (x : Message). x.body) (sym p) ∙ body_is,
    )
    go (inr p) = elim p [ ]

only_hello : (v : ServerId) (e n : ℕ) (b : Body) → Sends greets v e n b → (site_one ≡ v) × (0 ≡ e) × (0 ≡ n) × (Hello ≡ b)
only_hello = sent_one greets 0 Hello refl

only_enter : (v : ServerId) (e n : ℕ) (b : Body) → Sends enters v e n b → (site_one ≡ v) × (1 ≡ e) × (0 ≡ n) × (Change enter ≡ b)
only_enter = sent_one enters 1 (Change enter) refl

only_fetch : (v : ServerId) (e n : ℕ) (b : Body) → Sends (fetches whole) v e n b → (site_one ≡ v) × (1 ≡ e) × (0 ≡ n) × (Fetch (asks_for whole) ≡ b)
only_fetch = sent_one (fetches whole) 1 (Fetch (asks_for whole)) refl

takes_nothing : (v : ServerId) (e n : ℕ) (b : Body) → Sends (takes whole) v e n b → ⊥
takes_nothing v e n b s = elim s.1 [ ]

pub cache_nothing : (v : ServerId) (e n : ℕ) (b : Body) → Sends from_cache v e n b → ⊥
cache_nothing v e n b s = elim s.1 [ ]

plain_hello : (v : ServerId) (e n : ℕ) (m : Body) → Sends greets v e n m → IsPlain m
plain_hello v e n m p = subst IsPlain (only_hello v e n m p).3 tt

plain_enters : (v : ServerId) (e n : ℕ) (m : Body) → Sends enters v e n m → IsPlain m
plain_enters v e n m p = subst IsPlain (only_enter v e n m p).3 tt

plain_fetches : (v : ServerId) (e n : ℕ) (m : Body) → Sends (fetches whole) v e n m → IsPlain m
plain_fetches v e n m p = subst IsPlain (only_fetch v e n m p).3 tt

plain_takes : (v : ServerId) (e n : ℕ) (m : Body) → Sends (takes whole) v e n m → IsPlain m
plain_takes v e n m p = absurd (takes_nothing v e n m p)

plain_cache : (v : ServerId) (e n : ℕ) (m : Body) → Sends from_cache v e n m → IsPlain m
plain_cache v e n m p = absurd (cache_nothing v e n m p)

-- the Grant brings two tokens for reading
one_of : (t : Token) → In t (granted whole).bring.tokens → (t ≡ first) ⊎ (t ≡ second)
one_of t (inl e) = inl e
one_of t (inr (inl e)) = inr e
one_of t (inr (inr e)) = elim e [ ]

for_reading : (t : Token) → In t (granted whole).bring.tokens → t.kind ≡ Status true → ⊥
for_reading t m e = go (one_of t m)
  where
    go : (t ≡ first) ⊎ (t ≡ second) → ⊥
    go (inl p) = let q : Status false ≡ Status true = ap (λ (x : Token). x.kind) (sym p) ∙ e in cc
    go (inr p) = let q : Bytes false whole ≡ Status true = ap (λ (x : Token). x.kind) (sym p) ∙ e in cc

no_token : (t : Token) → In t [] → (t ≡ first) ⊎ (t ≡ second)
no_token t m = elim m [ ]

no_reading : (t : Token) → In t [] → t.kind ≡ Status true → ⊥
no_reading t m = elim m [ ]

young_one : IsYoung first second one
young_one = young_more first second [] greets.cause greets.asked greets.answers [] greets.sent (young_first first second) plain_hello no_token no_reading

young_two : IsYoung first second two
young_two = young_more first second one enters.cause enters.asked enters.answers [] enters.sent young_one plain_enters no_token no_reading

young_three : IsYoung first second three
young_three = young_more first second two (fetches whole).cause (fetches whole).asked (fetches whole).answers [] (fetches whole).sent young_two plain_fetches no_token no_reading

pub young_four : IsYoung first second four
young_four = young_more first second three (takes whole).cause (takes whole).asked (takes whole).answers (takes whole).taken [] young_three plain_takes one_of for_reading

pub young_five : IsYoung first second five
young_five = young_more first second four from_cache.cause from_cache.asked from_cache.answers [] [] young_four plain_cache no_token no_reading

-- names that are the same are equal
names_are : (a b : List ℕ) → same_name a b ≡ true → a ≡ b
names_are [] [] e = refl
names_are [] (y ∷ b) e = cc
names_are (x ∷ a) [] e = cc
names_are (x ∷ a) (y ∷ b) e =
    let p = and_parts (nat_eq x y) (pointwise nat_eq a b) e in
    let q = eqb-true x y p.0 in
    let r = names_are a b p.1 in
    λ i. q i ∷ r i

-- the filesets that the host has entered
abbrev pub homes : ServerId → List ℕ → Option FilesetId
homes v name = if (v.0 == 1) && same_name name (codes "home") then Some root.fileset else None

if_some : (b : Bool) (x id : FilesetId) → (if b then Some x else None) ≡ Some id → (b ≡ true) × (x ≡ id)
if_some true x id e = (refl, cc)
if_some false x id e = absurd (cc)

record AtHome (v : ServerId) (name : List ℕ) (id : FilesetId) : Type 0 where
  server : site_one ≡ v
  name_is : codes "home" ≡ name
  id_is : root.fileset ≡ id

homes_are : (v : ServerId) (name : List ℕ) (id : FilesetId) → homes v name ≡ Some id → AtHome v name id
homes_are v name id e =
    let p = if_some ((v.0 == 1) && same_name name (codes "home")) root.fileset id e in
    let q = and_parts (v.0 == 1) (same_name name (codes "home")) p.0 in
    let n = eqb-true v.0 1 q.0 in
    record { server = λ i. record { 0 = sym n i }; name_is = sym (names_are name (codes "home") q.1); id_is = p.1 }

are_homes : (v : ServerId) (name : List ℕ) (id : FilesetId) → AtHome v name id → homes v name ≡ Some id
are_homes v name id h = subst (λ (x : ServerId × List ℕ × FilesetId). homes x.0 x.1 ≡ Some x.2) (λ i. (h.server i, h.name_is i, h.id_is i)) refl

-- nobody has entered before the Done came
none_first : (s : Step) (past : List Step) (v : ServerId) (name : List ℕ) (id : FilesetId)
    → ((server : ServerId) (d : DoneOf) → DoneComes past s server d → ⊥) → Enters past s v name id → ⊥
none_first s past v name id none e = none v e.1 e.7.0

no_done_by_line : (s : Step) (past : List Step) (k : ℕ) → s.cause ≡ Line k → (v : ServerId) (d : DoneOf) → DoneComes past s v d → ⊥
no_done_by_line s past k at v d (inl x) = no_line s k v _ _ (Done d) at x.1
no_done_by_line s past k at v d (inr x) = no_line s k _ _ _ (Done d) at x

no_done_by : (s : Step) (past : List Step) (m : Message) → s.cause ≡ Came m → ((d : DoneOf) → m.body ≡ Done d → ⊥) → (v : ServerId) (d : DoneOf) → DoneComes past s v d → ⊥
no_done_by s past m at none v d (inl x) = none d (its_body s m v _ _ (Done d) at x.1)
no_done_by s past m at none v d (inr x) = none d (its_body s m _ _ _ (Done d) at x)

no_done_one : (v : ServerId) (d : DoneOf) → DoneComes [] greets v d → ⊥
no_done_one = no_done_by_line greets [] 6 refl

no_done_two : (v : ServerId) (d : DoneOf) → DoneComes one enters v d → ⊥
no_done_two = no_done_by enters one (to_host (Reclaimed welcome)) refl (λ d p. cc)

no_done_four : (v : ServerId) (d : DoneOf) → DoneComes three (takes whole) v d → ⊥
no_done_four = no_done_by (takes whole) three (to_host (Grant (granted whole))) refl (λ d p. cc)

no_done_five : (v : ServerId) (d : DoneOf) → DoneComes four from_cache v d → ⊥
no_done_five = no_done_by_line from_cache four 7 refl

none_one : (v : ServerId) (name : List ℕ) (id : FilesetId) → Entered one v name id → ⊥
none_one v name id (inl e) = none_first greets [] v name id no_done_one e
none_one v name id (inr e) = elim e [ ]

none_two : (v : ServerId) (name : List ℕ) (id : FilesetId) → Entered two v name id → ⊥
none_two v name id (inl e) = none_first enters one v name id no_done_two e
none_two v name id (inr e) = none_one v name id e

-- what the Done of the third step is
the_done : (v : ServerId) (d : DoneOf) → DoneComes two (fetches whole) v d → entered ≡ d
the_done v d (inl x) = let p = its_body (fetches whole) (to_host (Done entered)) v _ _ (Done d) refl x.1 in cc
the_done v d (inr x) = let p = its_body (fetches whole) (to_host (Done entered)) _ _ _ (Done d) refl x in cc

said_change : (v : ServerId) (e n : ℕ) (c : ChangeOf) → Said two v e n (Change c) → (site_one ≡ v) × (enter ≡ c)
said_change v e n c (inl p) = let q = only_enter v e n (Change c) p in (q.0, let r = q.3 in cc)
said_change v e n c (inr (inl p)) = absurd (let q = (only_hello v e n (Change c) p).3 in cc)
said_change v e n c (inr (inr p)) = elim p [ ]

-- what is outstanding
none_asking_one : (fs : FilesetId) (k : ℕ) → Asking one fs k → ⊥
none_asking_one fs k a = elim a.0 [ inl f ↦ (let p = (only_hello _ _ _ (Fetch f.0) f.1.3).3 in cc) | inr p ↦ elim p [ ] ]

none_asking_two : (fs : FilesetId) (k : ℕ) → Asking two fs k → ⊥
none_asking_two fs k a = elim a.0 [ inl f ↦ (let p = (only_enter _ _ _ (Fetch f.0) f.1.3).3 in cc) | inr p ↦ none_asking_one fs k p ]

asking_three : (fs : FilesetId) (k : ℕ) → Asking three fs k → (root.fileset ≡ fs) × (1 ≡ k)
asking_three fs k a =
    elim a.0 [
      | inl f ↦ (let p = (only_fetch _ _ _ (Fetch f.0) f.1.3).3 in let q : asks_for whole ≡ f.0 = cc in (ap (λ (x : FetchOf). x.fid.fileset) q ∙ f.2, ap (λ (x : FetchOf). x.number) q ∙ f.3))
      | inr p ↦ absurd (none_asking_two fs k p)
    ]

pub asking : Asking three root.fileset 1
asking = (
  inl (asks_for whole, (site_one, 1, 0, (to_server 1 (Fetch (asks_for whole)), inl refl, refl, refl, refl, refl)), refl, refl),
  λ g c at n. let p = its_body (fetches whole) (to_host (Done entered)) _ _ _ (Grant g) refl c in cc,
)

none_changing_one : (v : ServerId) (fs : FilesetId) (k : ℕ) → Changing one v fs k → ⊥
none_changing_one v fs k a = elim a.0 [ inl c ↦ (let p = (only_hello _ _ _ (Change c.0) c.1.3).3 in cc) | inr p ↦ elim p [ ] ]

changing_two : (v : ServerId) (fs : FilesetId) (k : ℕ) → Changing two v fs k → (site_one ≡ v) × (enter.fileset ≡ fs) × (1 ≡ k)
changing_two v fs k a =
    elim a.0 [
      | inl c ↦ (
          let p = only_enter _ _ _ (Change c.0) c.1.3 in
          let r = p.3 in
          let q : enter ≡ c.0 = cc in
          (p.0 ∙ c.1.4 (ap (λ (x : ChangeOf). x.fileset.0) (sym q)), ap (λ (x : ChangeOf). x.fileset) q ∙ c.2, ap (λ (x : ChangeOf). x.number) q ∙ c.3)
          )
      | inr p ↦ absurd (none_changing_one v fs k p)
    ]

changing : Changing two site_one enter.fileset 1
changing = (
  inl (enter, (site_one, 1, 0, (to_server 1 (Change enter), inl refl, refl, refl, refl, refl), λ z. refl), refl, refl),
  λ d c f n. no_done_two site_one d c,
)

settles : DoneComes two (fetches whole) site_one entered
settles = inl (refl, (to_host (Done entered), refl, refl, refl, refl, refl))

none_changing_three : (v : ServerId) (fs : FilesetId) (k : ℕ) → Changing three v fs k → ⊥
none_changing_three v fs k a =
    elim a.0 [
      | inl c ↦ (let p = (only_fetch _ _ _ (Change c.0) c.1.3).3 in cc)
      | inr p ↦ (let q = changing_two v fs k p in a.1 entered (subst (λ (x : ServerId). DoneComes two (fetches whole) x entered) q.0 settles) q.1 q.2)
    ]

-- what the host has entered
entered_three : (v : ServerId) (name : List ℕ) (id : FilesetId) → (homes v name ≡ Some id) ↔ Entered three v name id
entered_three v name id = (there, back)
  where
    there : homes v name ≡ Some id → Entered three v name id
    there e = let h = homes_are v name id e in
        subst (λ (x : ServerId × List ℕ × FilesetId). Entered three x.0 x.1 x.2) (λ i. (h.server i, h.name_is i, h.id_is i))
        (inl (enter, entered, 1, 0, inl (to_server 1 (Change enter), inl refl, refl, refl, refl, refl), refl, refl, (settles, changing), refl, refl, refl))

    back : Entered three v name id → homes v name ≡ Some id
    back (inl e) =
        let c = (said_change v e.2 e.3 e.0 e.4).1 in
        let p : Some (site_one, codes "home") ≡ Some (v, name) = ap (λ (x : ChangeOf). fileset_of x.call) c ∙ e.6 in
        let pair : (site_one, codes "home") ≡ (v, name) = cc in
        let done = the_done v e.1 e.7.0 in
        let known : Known root.fileset ≡ Known id = ap (λ (x : DoneOf). x.outcome) done ∙ e.10 in
        are_homes v name id (record { server = ap (λ (x : ServerId × List ℕ). x.0) pair; name_is = ap (λ (x : ServerId × List ℕ). x.1) pair; id_is = (let k = known in cc) })
    back (inr e) = absurd (none_two v name id e)

entered_four : (v : ServerId) (name : List ℕ) (id : FilesetId) → (homes v name ≡ Some id) ↔ Entered four v name id
entered_four v name id = (λ e. inr ((entered_three v name id).0 e), λ e. elim e [ inl x ↦ absurd (none_first (takes whole) three v name id no_done_four x) | inr x ↦ (entered_three v name id).1 x ])

pub entered_five : (v : ServerId) (name : List ℕ) (id : FilesetId) → (homes v name ≡ Some id) ↔ Entered five v name id
entered_five v name id = (λ e. inr ((entered_four v name id).0 e), λ e. elim e [ inl x ↦ absurd (none_first from_cache four v name id no_done_five x) | inr x ↦ (entered_four v name id).1 x ])

-- what the host knows of itself while it is young
abbrev pub knows_homes : (ServerId → List ℕ → Option FilesetId) → Own
knows_homes its = record {
  locks = [];
  opens = [];
  gives_lock = λ label. false;
  gives_open = λ label. false;
  is_clean = λ fid. true;
  seen = its;
}

module _ (past : List Step) (s : Step) (young : IsYoung first second past)
    (none_updates : (t : Token) → AtHand s past t → UpdatesStatus t t.fid → ⊥)
    (its : ServerId → List ℕ → Option FilesetId)
    (entered_is : (v : ServerId) (name : List ℕ) (id : FilesetId) → (its v name ≡ Some id) ↔ Entered (s ∷ past) v name id) where
  not_dirty : (t : Token) → AtHand s past t → IsDirtyUnder past s t → ⊥
  not_dirty t h (inl d) = let p = young.no_dirty t.fid d.0 in let q = sym p ∙ d.1.1 in cc
  not_dirty t h (inr d) = none_updates t h d.0

  clean : (fid : Fid) → IsClean past s fid
  clean fid = record { none_dirty = λ t h f d. not_dirty t h d; none_open = λ g m. absurd (young.no_made g m) }

  no_label : (u : Labelled) → HasLabel past s u → ⊥
  no_label u (inl p) = young.no_used u p
  no_label u (inr p) = young.no_made p.0 (ended_made past p.0 u p.1)

  needs_none : (u : Labelled) → NeedsServer past s u → ⊥
  needs_none u (inl p) = young.no_used u p.0.0
  needs_none u (inr p) = young.no_made p.0 (ended_made past p.0 u p.1)

  pub knows : KnowsItself client past s (knows_homes its)
  knows = record {
    locks = λ lock. (λ m. elim m [ ], λ u. absurd (no_label u.0 u.1));
    locks_once = tt;
    opens = λ opened. (λ m. elim m [ ], λ u. absurd (no_label u.0 u.1));
    opens_once = tt;
    gives_lock = λ label. (λ e. absurd (cc), λ u. absurd (needs_none u.1 u.4));
    gives_open = λ label. (λ e. absurd (cc), λ u. absurd (needs_none u.1 u.4));
    clean = λ fid. (λ e. clean fid, λ c. refl);
    seen = entered_is;
  }

-- which tokens the host holds
none_held_one : (t : Token) → Held one t → ⊥
none_held_one t k = elim k.0 [ inl m ↦ elim m [ ] | inr m ↦ elim m [ ] ]

none_held_two : (t : Token) → Held two t → ⊥
none_held_two t k = elim k.0 [ inl m ↦ elim m [ ] | inr k ↦ none_held_one t k ]

none_held_three : (t : Token) → Held three t → ⊥
none_held_three t k = elim k.0 [ inl m ↦ elim m [ ] | inr k ↦ none_held_two t k ]

held_four : (t : Token) → In t (granted whole).bring.tokens ↔ Held four t
held_four t = (λ m. (inl m, λ d. elim d.1 [ ]), λ h. elim h.0 [ inl m ↦ m | inr k ↦ absurd (none_held_three t k) ])

pub held_five : (t : Token) → In t (granted whole).bring.tokens ↔ Held five t
held_five t = (λ m. (inr ((held_four t).0 m), λ d. elim d.1 [ ]), λ h. elim h.0 [ inl m ↦ elim m [ ] | inr k ↦ (held_four t).1 k ])

no_update_four : (t : Token) → Held four t → UpdatesStatus t t.fid → ⊥
no_update_four t h u = for_reading t ((held_four t).1 h) u.1

pub no_update_five : (t : Token) → Held five t → UpdatesStatus t t.fid → ⊥
no_update_five t h u = for_reading t ((held_five t).1 h) u.1

-- where the host stands in each step
abbrev none_home : ServerId → List ℕ → Option FilesetId
none_home v name = None

stance_one : Stance roster client [] greets
stance_one = record {
  user = owner;
  acts_for = refl;
  own = knows_homes none_home;
  knows = knows [] greets (young_first first second) (λ t h. elim h [ inl m ↦ elim m [ ] | inr m ↦ elim m [ ] ]) none_home (λ v name id. (λ e. absurd (cc), λ e. absurd (none_one v name id e)));
  held = [];
  holds = λ t. (λ m. elim m [ ], λ h. elim h [ inl m ↦ elim m [ ] | inr m ↦ elim m [ ] ]);
  kept = [];
  keeps = λ t. (λ m. elim m [ ], λ h. absurd (none_held_one t h));
}

stance_two : Stance roster client one enters
stance_two = record {
  user = owner;
  acts_for = refl;
  own = knows_homes none_home;
  knows = knows one enters young_one (λ t h. elim h [ inl m ↦ elim m [ ] | inr m ↦ absurd (none_held_one t m) ]) none_home (λ v name id. (λ e. absurd (cc), λ e. absurd (none_two v name id e)));
  held = [];
  holds = λ t. (λ m. elim m [ ], λ h. elim h [ inl m ↦ elim m [ ] | inr k ↦ absurd (none_held_one t k) ]);
  kept = [];
  keeps = λ t. (λ m. elim m [ ], λ h. absurd (none_held_two t h));
}

stance_three : Stance roster client two (fetches whole)
stance_three = record {
  user = owner;
  acts_for = refl;
  own = knows_homes homes;
  knows = knows two (fetches whole) young_two (λ t h. elim h [ inl m ↦ elim m [ ] | inr m ↦ absurd (none_held_two t m) ]) homes entered_three;
  held = [];
  holds = λ t. (λ m. elim m [ ], λ h. elim h [ inl m ↦ elim m [ ] | inr k ↦ absurd (none_held_two t k) ]);
  kept = [];
  keeps = λ t. (λ m. elim m [ ], λ h. absurd (none_held_three t h));
}

stance_four : Stance roster client three (takes whole)
stance_four = record {
  user = owner;
  acts_for = refl;
  own = knows_homes homes;
  knows = knows three (takes whole) young_three (λ t h u. elim h [ inl m ↦ for_reading t m u.1 | inr m ↦ absurd (none_held_three t m) ]) homes entered_four;
  held = (granted whole).bring.tokens;
  holds = λ t. (λ m. inl m, λ h. elim h [ inl m ↦ m | inr k ↦ absurd (none_held_three t k) ]);
  kept = (granted whole).bring.tokens;
  keeps = held_four;
}

stance_five : Stance roster client four from_cache
stance_five = record {
  user = owner;
  acts_for = refl;
  own = knows_homes homes;
  knows = knows four from_cache young_four (λ t h. elim h [ inl m ↦ elim m [ ] | inr m ↦ no_update_four t m ]) homes entered_five;
  held = (granted whole).bring.tokens;
  holds = λ t. (λ m. inr ((held_four t).0 m), λ h. elim h [ inl m ↦ elim m [ ] | inr k ↦ (held_four t).1 k ]);
  kept = (granted whole).bring.tokens;
  keeps = held_five;
}

not_end : (kind : Kind) (label : List ℕ) → end_call kind label ≡ stat → ⊥
not_end (Bytes update span) label e = cc
not_end (Status update) label e = cc
not_end (Lock writing span) label e = cc
not_end (Opening kind) label e = cc

-- a step that answers nothing: its one call can't be answered
no_answers : (past : List Step) (s : Step) (stance : Stance roster client past s) → s.answers ≡ [] → s.wrote ≡ None → s.begun ≡ []
    → ((k : ℕ) (call : Call) → HasCall past s k call → stat ≡ call) → ((reply : Reply) → CanAnswer roster client past s stance stat reply → ⊥)
    → HostAnswers roster client past s stance
no_answers past s stance none unwritten unbegun turn cant = record {
  answers = λ a m. absurd (gone a m);
  answers_all = λ k call reply t can. absurd (cant reply (subst (λ (c : Call). CanAnswer roster client past s stance c reply) (sym (turn k call t)) can));
  first = λ a m. absurd (gone a m);
  asked = λ a c m. absurd (gone a m);
  answers_one = subst (λ (xs : List Answer). length xs ≤ 1) (sym none) (omega arith);
  answers_alone = λ a fs n m. absurd (gone a m);
  answers_settled = λ a v fs n m. absurd (gone a m);
  keeps = λ a m. absurd (gone a m);
  quiet = λ a m. absurd (gone a m);
  writes = λ a fid from bytes m. absurd (gone a m);
  writes_only = λ fid e. absurd (let p = sym unwritten ∙ e in cc);
  locks = λ a fid writing span m. absurd (gone a m);
  opens = λ a fid kind m. absurd (gone a m);
  begins = λ u m. absurd (fresh u m);
  begins_one = λ u w m. absurd (fresh u m);
}
  where
    gone : (a : Answer) → In a s.answers → ⊥
    gone a m = subst (In a) none m

    fresh : (u : Labelled) → In u s.begun → ⊥
    fresh u m = subst (In u) unbegun m

-- the open call of the first steps
abbrev pub the_call : Asked
the_call = record { k = 1; call = stat }

open_one : (c : Asked) → IsOpen one c → the_call ≡ c
open_one c (inl e) = cc
open_one c (inr o) = elim o.0 [ ]

open_two : (c : Asked) → IsOpen two c → the_call ≡ c
open_two c (inl e) = absurd (cc)
open_two c (inr o) = open_one c o.0

open_three : (c : Asked) → IsOpen three c → the_call ≡ c
open_three c (inl e) = absurd (cc)
open_three c (inr o) = open_two c o.0

is_open_one : IsOpen one the_call
is_open_one = inl refl

not_ended_two : CauseEnds one enters the_call → ⊥
not_ended_two (inl (v, d, r, c, is)) = no_done_two v d c.0
not_ended_two (inr e) = young_one.no_made e.0 e.2

not_ended_three : CauseEnds two (fetches whole) the_call → ⊥
not_ended_three (inl (v, d, r, c, is)) =
    let q = the_done v d c.0 in
    let k : Known root.fileset ≡ HasReply r = ap (λ (x : DoneOf). x.outcome) q ∙ is in cc
not_ended_three (inr e) = young_two.no_made e.0 e.2

not_ended_four : CauseEnds three (takes whole) the_call → ⊥
not_ended_four (inl (v, d, r, c, is)) = no_done_four v d c.0
not_ended_four (inr e) = young_three.no_made e.0 e.2

is_open_two : IsOpen two the_call
is_open_two = inr (is_open_one, not_ended_two, λ a m. elim m [ ])

is_open_three : IsOpen three the_call
is_open_three = inr (is_open_two, not_ended_three, λ a m. elim m [ ])

-- each step's only call is the Stat
turn_one : (k : ℕ) (call : Call) → HasCall [] greets k call → stat ≡ call
turn_one k call (inl (inl e)) = let p : the_call ≡ record { k = k; call = call } = cc in ap (λ (x : Asked). x.call) p
turn_one k call (inl (inr b)) = elim b.1 [ ]
turn_one k call (inr g) = elim g.0 [ ]

turn_two : (k : ℕ) (call : Call) → HasCall one enters k call → stat ≡ call
turn_two k call (inl (inl e)) = absurd (cc)
turn_two k call (inl (inr b)) = elim b.1 [ ]
turn_two k call (inr g) = ap (λ (x : Asked). x.call) (open_one _ g.0)

turn_three : (k : ℕ) (call : Call) → HasCall two (fetches whole) k call → stat ≡ call
turn_three k call (inl (inl e)) = absurd (cc)
turn_three k call (inl (inr b)) = elim b.1 [ ]
turn_three k call (inr g) = ap (λ (x : Asked). x.call) (open_two _ g.0)

turn_four : (k : ℕ) (call : Call) → HasCall three (takes whole) k call → (1 ≡ k) × (stat ≡ call)
turn_four k call (inl (inl e)) = absurd (cc)
turn_four k call (inl (inr (a, inl p, e, _, _))) = absurd (let q : false ≡ true = ap (λ (x : Answer). x.first) (sym p) ∙ e in cc)
turn_four k call (inl (inr (a, inr p, _, _, _))) = elim p [ ]
turn_four k call (inr g) = let p = open_three _ g.0 in (ap (λ (x : Asked). x.k) p, ap (λ (x : Asked). x.call) p)

none_open_four : (c : Asked) → IsOpen four c → ⊥
none_open_four c (inl e) = cc
none_open_four c (inr o) = o.2 (answer 1 false) (inl refl) (ap (λ (x : Asked). x.k) (open_three c o.0))

turn_five : (k : ℕ) (call : Call) → HasCall four from_cache k call → (2 ≡ k) × (stat ≡ call)
turn_five k call (inl (inl e)) = absurd (cc)
turn_five k call (inl (inr (a, inl p, _, n, at))) = (ap (λ (x : Answer). x.k) (sym p) ∙ n, ap (λ (x : Answer). x.call) (sym p) ∙ at)
turn_five k call (inl (inr (a, inr p, _, _, _))) = elim p [ ]
turn_five k call (inr g) = absurd (none_open_four _ g.0)

pub none_open_five : (c : Asked) → IsOpen five c → ⊥
none_open_five c (inl e) = cc
none_open_five c (inr o) = none_open_four c o.0

-- first the host asks for the fileset's number
asks_one : verdict_in stance_one stat ≡ Asks (EnterAt site_one)
unfolding call_look stance_one
asks_one = refl

covered_one : IsCovered [] (sees [] greets) (look_of stance_one stat)
unfolding call_look stance_one
covered_one = tt

asks_two : verdict_in stance_two stat ≡ Asks (EnterAt site_one)
unfolding call_look stance_two
asks_two = refl

covered_two : IsCovered [] (sees one enters) (look_of stance_two stat)
unfolding call_look stance_two
covered_two = tt

-- then it lacks the root's status
cant_three : (reply : Reply) → CanAnswer roster client two (fetches whole) stance_three stat reply → ⊥
unfolding call_look stat_look stance_three
cant_three reply can = let p = can.covered.0 in cc

first_lack : FirstLack roster client two (fetches whole) stance_three stat (record { fid = root; kind = Status false })
unfolding call_look stat_look stance_three
first_lack = inl ((λ c. let p = c in cc), refl)

not_welcome_one : (v : ServerId) → IsWelcome one v → ⊥
not_welcome_one v (inl w) = no_line greets 6 v _ _ (Reclaimed w.1.0) refl w.1.1
not_welcome_one v (inr w) = elim w [ ]

goes_one : GoesTo roster client [] greets stance_one stat site_one
unfolding stance_one
goes_one = inr (EnterAt site_one, no_fid, inl (asks_one, covered_one, refl), refl)

greeted_one : HasGreeted one site_one
greeted_one = (0, 0, inl (to_server 0 Hello, inl refl, refl, refl, refl, refl))

asks_greets : HostAsks roster client [] greets stance_one
unfolding stance_one
asks_greets = record {
  fetches = λ f p. absurd (let q = (only_hello _ _ _ (Fetch f) p.3).3 in cc);
  changes = λ v e n c p. absurd (let q = (only_hello v e n (Change c) p).3 in cc);
  one_fetch = λ fs gs n m a. absurd (none_asking_one fs n a);
  one_change = λ v w fs gs n m a. absurd (none_changing_one v fs n a);
  one_of_both = λ v fs gs n m a. absurd (none_asking_one fs n a);
  fetches_welcome = λ v e n f p. absurd (let q = (only_hello v e n (Fetch f) p).3 in cc);
  changes_welcome = λ v e n c p. absurd (let q = (only_hello v e n (Change c) p).3 in cc);
  asks = λ c o up. inr (inr (inr (site_one, subst (λ (x : Asked). GoesTo roster client [] greets stance_one x.call site_one) (open_one c o) goes_one, greeted_one, not_welcome_one site_one)));
}

welcome_two : IsWelcome two site_one
welcome_two = inl (greeted_one, (welcome, (to_host (Reclaimed welcome), refl, refl, refl, refl, refl)))

new_enter : IsNewChange roster client one enters stance_two site_one 0 enter
unfolding stance_two
new_enter = record {
  next = record { above = λ m x. absurd (none_said x.0 x.1.0 x.1.1 x.1.2 x.1.3); after = inl refl };
  is_open = is_open_two;
  question = EnterAt site_one;
  asks = inl (asks_two, covered_two, refl);
  enters = refl;
  numbered = refl;
  goes = refl;
}
  where
    none_said : (c : ChangeOf) (v : ServerId) (e n : ℕ) → Said one v e n (Change c) → ⊥
    none_said c v e n (inl p) = let q = (only_hello v e n (Change c) p).3 in cc
    none_said c v e n (inr p) = elim p [ ]

asks_enters : HostAsks roster client one enters stance_two
asks_enters = record {
  fetches = λ f p. absurd (let q = (only_enter _ _ _ (Fetch f) p.3).3 in cc);
  changes = λ v e n c p. let q = only_enter v e n (Change c) p in let r = q.3 in let is : enter ≡ c = cc in new v n c q.0 q.2 is;
  one_fetch = λ fs gs n m a. absurd (none_asking_two fs n a);
  one_change = λ v w fs gs n m a b. let p = changing_two v fs n a in let q = changing_two w gs m b in (sym p.1 ∙ q.1, sym p.2 ∙ q.2);
  one_of_both = λ v fs gs n m a. absurd (none_asking_two fs n a);
  fetches_welcome = λ v e n f p. absurd (let q = (only_enter v e n (Fetch f) p).3 in cc);
  changes_welcome = λ v e n c p. subst (IsWelcome two) (only_enter v e n (Change c) p).0 welcome_two;
  asks = λ c o up. inr (inl (site_one, enter.fileset, 1, changing));
}
  where
    new : (v : ServerId) (n : ℕ) (c : ChangeOf) → site_one ≡ v → 0 ≡ n → enter ≡ c → (HasChanged one v c × Changing one v c.fileset c.number) ⊎ IsNewChange roster client one enters stance_two v n c
    new v n c p q r = inr (subst (λ (x : ServerId × ℕ × ChangeOf). IsNewChange roster client one enters stance_two x.0 x.1 x.2) (λ i. (p i, q i, r i)) new_enter)

new_fetch : IsNewFetch roster client two (fetches whole) stance_three (asks_for whole)
unfolding stance_three
new_fetch = record {
  next = record { above = λ m x. absurd (none_said x.0 x.1.0 x.1.1 x.1.2 x.1.3); after = inl refl };
  no_give = λ g. young_three.no_made g.0 g.1;
  call = the_call;
  is_open = is_open_three;
  need = record { fid = root; kind = Status false };
  fetched = λ u. u;
  file = refl;
  first = first_lack;
  needs = OfDirectory (inl refl) refl;
}
  where
    none_said : (f : FetchOf) (v : ServerId) (e n : ℕ) → Said two v e n (Fetch f) → ⊥
    none_said f v e n (inl p) = let q = (only_enter v e n (Fetch f) p).3 in cc
    none_said f v e n (inr (inl p)) = let q = (only_hello v e n (Fetch f) p).3 in cc
    none_said f v e n (inr (inr p)) = elim p [ ]

asks_fetches : HostAsks roster client two (fetches whole) stance_three
asks_fetches = record {
  fetches = λ f p. let q = (only_fetch _ _ _ (Fetch f) p.3).3 in let is : asks_for whole ≡ f = cc in inr (subst (IsNewFetch roster client two (fetches whole) stance_three) is new_fetch);
  changes = λ v e n c p. absurd (let q = (only_fetch v e n (Change c) p).3 in cc);
  one_fetch = λ fs gs n m a b. let p = asking_three fs n a in let q = asking_three gs m b in (sym p.0 ∙ q.0, sym p.1 ∙ q.1);
  one_change = λ v w fs gs n m a. absurd (none_changing_three v fs n a);
  one_of_both = λ v fs gs n m a b. absurd (none_changing_three v gs m b);
  fetches_welcome = λ v e n f p. subst (IsWelcome three) (only_fetch v e n (Fetch f) p).0 (inr welcome_two);
  changes_welcome = λ v e n c p. absurd (let q = (only_fetch v e n (Change c) p).3 in cc);
  asks = λ c o up. inl (root.fileset, 1, asking);
}

-- a step whose cause is a message and that begins no call
pub by_message : (past : List Step) (s : Step) (m : Message) → s.cause ≡ Came m → s.applied ≡ [] → s.admitted ≡ [] → s.reserved ≡ []
    → ((k : ℕ) (call : Call) → BeginsCall s k call → ⊥) → (Stops s → ⊥)
    → HostLines (lines_of script (Host client)) (servers_of roster) 64 past s
by_message past s m is applied admitted reserved none up = record {
  next = λ n c. absurd (not_line n c);
  free = λ n c. absurd (not_line n c);
  begins = λ k call b. absurd (none k call b);
  stops = λ d. absurd (up d);
  no_server = ((λ n c. let p : Restart n ≡ Came m = sym c ∙ is in cc), λ c. let p : Flushed ≡ Came m = sym c ∙ is in cc);
  applies_none = (applied, admitted, reserved);
}
  where
    not_line : (n : ℕ) → s.cause ≡ Line n → ⊥
    not_line n c = let p : Line n ≡ Came m = sym c ∙ is in cc

-- a step that sends nothing, with no call open after it
asks_nothing : (past : List Step) (s : Step) (stance : Stance roster client past s)
    → ((v : ServerId) (e n : ℕ) (b : Body) → Sends s v e n b → ⊥) → ((fs : FilesetId) (k : ℕ) → Asking (s ∷ past) fs k → ⊥)
    → ((v : ServerId) (fs : FilesetId) (k : ℕ) → Changing (s ∷ past) v fs k → ⊥) → ((c : Asked) → IsOpen (s ∷ past) c → ⊥)
    → HostAsks roster client past s stance
asks_nothing past s stance silent asking_none changing_none shut = record {
  fetches = λ f p. absurd (silent _ _ _ (Fetch f) p.3);
  changes = λ v e n c p. absurd (silent v e n (Change c) p);
  one_fetch = λ fs gs n m a. absurd (asking_none fs n a);
  one_change = λ v w fs gs n m a. absurd (changing_none v fs n a);
  one_of_both = λ v fs gs n m a. absurd (asking_none fs n a);
  fetches_welcome = λ v e n f p. absurd (silent v e n (Fetch f) p);
  changes_welcome = λ v e n c p. absurd (silent v e n (Change c) p);
  asks = λ c o. absurd (shut c o);
}

grant_about : About three (takes whole) root.fileset (Grant (granted whole))
grant_about = (to_host (Grant (granted whole)), refl, sym at_one, sym (ap (epoch_at three) at_one), refl, refl)

none_asking_four : (fs : FilesetId) (k : ℕ) → Asking four fs k → ⊥
none_asking_four fs k a =
    elim a.0 [
      | inl f ↦ takes_nothing _ _ _ (Fetch f.0) f.1.3
      | inr p ↦ (let q = asking_three fs k p in a.1 (granted whole) (subst (λ (x : FilesetId). About three (takes whole) x (Grant (granted whole))) q.0 grant_about) q.0 q.1)
    ]

none_changing_four : (v : ServerId) (fs : FilesetId) (k : ℕ) → Changing four v fs k → ⊥
none_changing_four v fs k a = elim a.0 [ inl c ↦ takes_nothing _ _ _ (Change c.0) c.1.3 | inr p ↦ none_changing_three v fs k p ]

pub none_asking_five : (fs : FilesetId) (k : ℕ) → Asking five fs k → ⊥
none_asking_five fs k a = elim a.0 [ inl f ↦ cache_nothing _ _ _ (Fetch f.0) f.1.3 | inr p ↦ none_asking_four fs k p ]

pub none_changing_five : (v : ServerId) (fs : FilesetId) (k : ℕ) → Changing five v fs k → ⊥
none_changing_five v fs k a = elim a.0 [ inl c ↦ cache_nothing _ _ _ (Change c.0) c.1.3 | inr p ↦ none_changing_four v fs k p ]

-- under the tokens of the root the Stat is answered
can_four : CanAnswer roster client three (takes whole) stance_four stat facts
unfolding call_look stat_look stance_four
can_four = record { covered = (refl, (refl, tt)); settled = refl }

replies_four : verdict_in stance_four stat ≡ Replies facts
unfolding call_look stat_look stance_four
replies_four = refl

can_five : CanAnswer roster client four from_cache stance_five stat facts
unfolding call_look stat_look stance_five
can_five = record { covered = (refl, (refl, tt)); settled = refl }

replies_five : verdict_in stance_five stat ≡ Replies facts
unfolding call_look stat_look stance_five
replies_five = refl

-- a step that answers the Stat alone, with what it shows
module _ (past : List Step) (s : Step) (stance : Stance roster client past s) (k : ℕ) (is_first : Bool)
    (one_answer : s.answers ≡ answer k is_first ∷ []) (unwritten : s.wrote ≡ None) (unbegun : s.begun ≡ []) (unasked : s.asked ≡ None)
    (undropped : s.dropped ≡ []) (unmade : s.made ≡ []) (unsent : s.sent ≡ [])
    (its_turn : HasCall past s k stat) (turn : (j : ℕ) (call : Call) → HasCall past s j call → (k ≡ j) × (stat ≡ call))
    (can : CanAnswer roster client past s stance stat facts) (is : verdict_in stance stat ≡ Replies facts)
    (was : (is_first ≡ true) ⊎ ((is_first ≡ false) × CallGoesOn past s k stat)) (alone : (fs : FilesetId) (n : ℕ) → Asking (s ∷ past) fs n → ⊥)
    (none_changing : (v : ServerId) (fs : FilesetId) (n : ℕ) → Changing (s ∷ past) v fs n → ⊥) where
  it : (a : Answer) → In a s.answers → answer k is_first ≡ a
  it a m = go (subst (In a) one_answer m)
    where
      go : In a (answer k is_first ∷ []) → answer k is_first ≡ a
      go (inl e) = sym e
      go (inr e) = elim e [ ]

  fresh : (u : Labelled) → In u s.begun → ⊥
  fresh u m = subst (In u) unbegun m

  shown : (a : Answer) → In a s.answers → Replies facts ≡ verdict_in stance a.call
  shown a m = sym is ∙ ap (λ (x : Answer). verdict_in stance x.call) (it a m)

  answers_stat : HostAnswers roster client past s stance
  answers_stat = record {
    answers = λ a m. subst (λ (x : Answer). (x.host ≡ client) × HasCall past s x.k x.call × CanAnswer roster client past s stance x.call x.reply) (it a m) (refl, its_turn, can);
    answers_all = λ j call reply t c. (answer k is_first, subst (In (answer k is_first)) (sym one_answer) (inl refl), (turn j call t).0);
    first = λ a m. subst (λ (x : Answer). (x.first ≡ true) ⊎ ((x.first ≡ false) × CallGoesOn past s x.k x.call)) (it a m) was;
    asked = λ a c m e. absurd (let p = sym unasked ∙ e in cc);
    answers_one = subst (λ (xs : List Answer). length xs ≤ 1) (sym one_answer) (omega arith);
    answers_alone = λ a fs n m. alone fs n;
    answers_settled = λ a v fs n m. none_changing v fs n;
    keeps = λ a m. (undropped, unmade);
    quiet = λ a m e. unsent;
    writes = λ a fid from bytes m e. absurd (let p = shown a m ∙ e in cc);
    writes_only = λ fid e. absurd (let p = sym unwritten ∙ e in cc);
    locks = λ a fid writing span m e. absurd (let p = shown a m ∙ e in cc);
    opens = λ a fid kind m e. absurd (let p = shown a m ∙ e in cc);
    begins = λ u m. absurd (fresh u m);
    begins_one = λ u w m. absurd (fresh u m);
  }

-- neither a Revoke nor a Restarted
abbrev IsCalm : Body → Type 0
IsCalm (Revoke r) = ⊥
IsCalm Restarted = ⊥
IsCalm _ = Unit {0}

-- no message of another kind comes to these steps
module _ (past : List Step) (s : Step) (m : Message) (at : s.cause ≡ Came m) (calm : IsCalm m.body) where
  no_revoke : (v : ServerId) (e n : ℕ) (r : RevokeOf) → ComesIn s v e n (Revoke r) → ⊥
  no_revoke v e n r c = subst IsCalm (its_body s m v e n (Revoke r) at c) calm

  no_restarted : (v : ServerId) (e n : ℕ) → ComesIn s v e n Restarted → ⊥
  no_restarted v e n c = subst IsCalm (its_body s m v e n Restarted at c) calm

no_revoke_line : (s : Step) (k : ℕ) → s.cause ≡ Line k → (v : ServerId) (e n : ℕ) (r : RevokeOf) → ComesIn s v e n (Revoke r) → ⊥
no_revoke_line s k at v e n r c = no_line s k v e n (Revoke r) at c

no_restarted_line : (s : Step) (k : ℕ) → s.cause ≡ Line k → (v : ServerId) (e n : ℕ) → ComesIn s v e n Restarted → ⊥
no_restarted_line s k at v e n c = no_line s k v e n Restarted at c

no_reclaimed_line : (past : List Step) (s : Step) (k : ℕ) → s.cause ≡ Line k → (v : ServerId) (r : ReclaimedOf) → Comes past s v (Reclaimed r) → ⊥
no_reclaimed_line past s k at v r c = no_line s k v _ _ (Reclaimed r) at c

no_reclaimed_two : (v : ServerId) (r : ReclaimedOf) → Comes one enters v (Reclaimed r) → ⊥
no_reclaimed_two v r c =
    let m = its_message enters (to_host (Reclaimed welcome)) v _ _ (Reclaimed r) refl c in
    let z : epoch_at one v ≡ 0 = ap (epoch_at one) (sym m.0) in
    let e : 1 ≡ epoch_at one v = m.1 in
    omega (arith, e, z)

no_reclaimed_three : (v : ServerId) (r : ReclaimedOf) → Comes two (fetches whole) v (Reclaimed r) → ⊥
no_reclaimed_three v r c = let p = its_body (fetches whole) (to_host (Done entered)) v _ _ (Reclaimed r) refl c in cc

no_reclaimed_four : (v : ServerId) (r : ReclaimedOf) → Comes three (takes whole) v (Reclaimed r) → ⊥
no_reclaimed_four v r c = let p = its_body (takes whole) (to_host (Grant (granted whole))) v _ _ (Reclaimed r) refl c in cc

-- what is used
none_answers_line : (past : List Step) (s : Step) (k : ℕ) → s.cause ≡ Line k → (w : Bring) → AnswersRequest past s w → ⊥
none_answers_line past s k at w (inl g) = no_line s k _ _ _ (Grant g.0) at g.1
none_answers_line past s k at w (inr d) = no_line s k _ _ _ (Done d.0) at d.1

none_answers_two : (w : Bring) → AnswersRequest one enters w → ⊥
none_answers_two w (inl g) = let p = its_body enters (to_host (Reclaimed welcome)) _ _ _ (Grant g.0) refl g.1 in cc
none_answers_two w (inr d) = let p = its_body enters (to_host (Reclaimed welcome)) _ _ _ (Done d.0) refl d.1 in cc

brings_three : (w : Bring) → AnswersRequest two (fetches whole) w → entered.bring ≡ w
brings_three w (inl g) = absurd (let p = its_body (fetches whole) (to_host (Done entered)) _ _ _ (Grant g.0) refl g.1 in cc)
brings_three w (inr d) = let p = its_body (fetches whole) (to_host (Done entered)) _ _ _ (Done d.0) refl d.1 in let q : entered ≡ d.0 = cc in ap (λ (x : DoneOf). x.bring) q ∙ d.2

brings_four : (w : Bring) → AnswersRequest three (takes whole) w → (granted whole).bring ≡ w
brings_four w (inl g) = let p = its_body (takes whole) (to_host (Grant (granted whole))) _ _ _ (Grant g.0) refl g.1 in let q : granted whole ≡ g.0 = cc in ap (λ (x : GrantOf). x.bring) q ∙ g.2
brings_four w (inr d) = absurd (let p = its_body (takes whole) (to_host (Grant (granted whole))) _ _ _ (Done d.0) refl d.1 in cc)

not_revoked : (past : List Step) (s : Step) (m : Message) → s.cause ≡ Came m → ((r : RevokeOf) → m.body ≡ Revoke r → ⊥) → (r : RevokeOf) → About past s root.fileset (Revoke r) → r.fid ≡ root → r.stamp < 1
not_revoked past s m at none r c f = absurd (none r (its_body s m _ _ _ (Revoke r) at c))

above : AboveFloor three root 1
above = inr (
  inr (
    inr (omega arith, λ r c f. absurd (no_line greets 6 _ _ _ (Revoke r) refl c), λ w a up free f. absurd (none_answers_line [] greets 6 refl w a)),
    not_revoked one enters (to_host (Reclaimed welcome)) refl (λ r p. cc),
    λ w a up free f. absurd (none_answers_two w a),
  ),
  not_revoked two (fetches whole) (to_host (Done entered)) refl (λ r p. cc),
  λ w a up free f. absurd (let p : no_fid.anode ≡ root.anode = ap (λ (x : Bring). x.fid.anode) (brings_three w a) ∙ ap (λ (x : Fid). x.anode) f in omega (arith, p)),
)

used : Uses three (takes whole) (granted whole).bring
used = (inl (granted whole, grant_about, refl, asking), above, λ o. young_three.no_made o.0 o.1)

fid_of : (t : Token) → In t (granted whole).bring.tokens → t.fid ≡ root
fid_of t (inl e) = ap (λ (x : Token). x.fid) e
fid_of t (inr (inl e)) = ap (λ (x : Token). x.fid) e
fid_of t (inr (inr e)) = elim e [ ]

may_take : (t : Token) → In t (granted whole).bring.tokens → (w : Bring) × Uses three (takes whole) w × In t w.tokens × (t.fid ≡ w.fid) × (HoldsId three t.id → ⊥)
may_take t m = ((granted whole).bring, used, m, fid_of t m, λ k. none_held_three k.0 k.1)

two_of : (t u : Token) → (t ≡ first) ⊎ (t ≡ second) → (u ≡ first) ⊎ (u ≡ second) → t.id ≡ u.id → t ≡ u
two_of t u (inl p) (inl q) e = p ∙ sym q
two_of t u (inr p) (inr q) e = p ∙ sym q
two_of t u (inl p) (inr q) e = absurd (let s : 1 ≡ 2 = ap (λ (x : Token). x.id.seq) (sym p) ∙ (ap (λ (x : TokenId). x.seq) e ∙ ap (λ (x : Token). x.id.seq) q) in omega (arith, s))
two_of t u (inr p) (inl q) e = absurd (let s : 2 ≡ 1 = ap (λ (x : Token). x.id.seq) (sym p) ∙ (ap (λ (x : TokenId). x.seq) e ∙ ap (λ (x : Token). x.id.seq) q) in omega (arith, s))

-- the epochs and places of what is sent
now_of : (past : List Step) (s : Step) (n : ℕ) → epoch_at (s ∷ past) site_one ≡ n → (v : ServerId) (e : ℕ) → site_one ≡ v → n ≡ e → e ≡ epoch_at (s ∷ past) v
now_of past s n is v e p q = sym q ∙ (sym is ∙ ap (epoch_at (s ∷ past)) p)

may_greets : HostTokens [] greets
may_greets = may first second [] greets.cause greets.asked greets.answers [] greets.sent (young_first first second) plain_hello
    (λ t m. elim m [ ])
    (λ v e n b p. let q = only_hello v e n b p in now_of [] greets 0 refl v e q.0 q.1)
    (λ f v e n p. absurd (let q = (only_hello v e n (Fetch f) p).3 in cc))
    (λ c v e n p. absurd (let q = (only_hello v e n (Change c) p).3 in cc))

may_enters : HostTokens one enters
may_enters = may first second one enters.cause enters.asked enters.answers [] enters.sent young_one plain_enters
    (λ t m. elim m [ ])
    (λ v e n b p. let q = only_enter v e n b p in now_of one enters 1 refl v e q.0 q.1)
    (λ f v e n p. absurd (let q = (only_enter v e n (Fetch f) p).3 in cc))
    (λ c v e n p. let q = only_enter v e n (Change c) p in let r = q.3 in let is : enter ≡ c = cc in inl (ap (λ (x : ChangeOf). x.fileset.0) (sym is), sym q.2))

may_fetches : HostTokens two (fetches whole)
may_fetches = may first second two (fetches whole).cause (fetches whole).asked (fetches whole).answers [] (fetches whole).sent young_two plain_fetches
    (λ t m. elim m [ ])
    (λ v e n b p. let q = only_fetch v e n b p in now_of two (fetches whole) 1 refl v e q.0 q.1)
    (λ f v e n p. let q = only_fetch v e n (Fetch f) p in let r = q.3 in let is : asks_for whole ≡ f = cc in at f v n is q.0 q.2)
    (λ c v e n p. absurd (let q = (only_fetch v e n (Change c) p).3 in cc))
  where
    at : (f : FetchOf) (v : ServerId) (n : ℕ) → asks_for whole ≡ f → site_one ≡ v → 0 ≡ n → stay_of three f.fid.fileset ≡ record { server = v; moves = n }
    at f v n is p q = ap (λ (x : FetchOf). stay_of three x.fid.fileset) (sym is) ∙ (at_here ∙ (λ i. record { server = p i; moves = q i }))

may_takes : HostTokens three (takes whole)
may_takes = may first second three (takes whole).cause (takes whole).asked (takes whole).answers (takes whole).taken [] young_three plain_takes
    may_take
    (λ v e n b p. absurd (takes_nothing v e n b p))
    (λ f v e n p. absurd (takes_nothing v e n (Fetch f) p))
    (λ c v e n p. absurd (takes_nothing v e n (Change c) p))

may_cache : HostTokens four from_cache
may_cache = may first second four from_cache.cause from_cache.asked from_cache.answers [] [] young_four plain_cache
    (λ t m. elim m [ ])
    (λ v e n b p. absurd (cache_nothing v e n b p))
    (λ f v e n p. absurd (cache_nothing v e n (Fetch f) p))
    (λ c v e n p. absurd (cache_nothing v e n (Change c) p))

none_begins : (s : Step) → s.asked ≡ None → ((a : Answer) → In a s.answers → a.first ≡ true → ⊥) → (k : ℕ) (call : Call) → BeginsCall s k call → ⊥
none_begins s unasked late k call (inl e) = let p = sym unasked ∙ e in cc
none_begins s unasked late k call (inr b) = late b.0 b.1 b.2

none_idle : (n : ℕ) → HasUnused [] (suc n) → ⊥
none_idle n ([], _, e, _) = omega (arith, e)
none_idle n (t ∷ ts, _, _, all) = elim (all t (inl refl)).0 [ ]

takes_all : (past : List Step) (s : Step) → s.taken ≡ [] → ((w : Bring) (t : Token) → AnswersRequest past s w → In t w.tokens → ⊥) → HostTakes past s
takes_all past s none unused = record {
  all = λ w t u m. absurd (unused w t u.0 m);
  once = λ t u m. absurd (subst (In t) none m);
}

pub meets_greets : HostMay script client [] greets
meets_greets = record {
  tokens = may_greets;
  takes = takes_all [] greets refl (λ w t a. absurd (none_answers_line [] greets 6 refl w a));
  stance = stance_one;
  answers = no_answers [] greets stance_one refl refl refl turn_one (λ reply can. let p : None ≡ Some reply = ap reply_now (sym asks_one) ∙ can.settled in cc);
  asks = asks_greets;
  gives = gives first second [] greets.cause greets.asked greets.answers [] greets.sent (young_first first second) plain_hello;
  revoked = revoked first second [] greets.cause greets.asked greets.answers [] greets.sent (young_first first second) plain_hello (no_revoke_line greets 6 refl) (no_restarted_line greets 6 refl) (no_reclaimed_line [] greets 6 refl) (λ c. cc) (λ c. cc) (λ c. cc);
  resends = resends first second [] greets.cause greets.asked greets.answers [] greets.sent (young_first first second) plain_hello (no_revoke_line greets 6 refl) (no_restarted_line greets 6 refl) (no_reclaimed_line [] greets 6 refl) (λ c. cc) (λ c. cc) (λ c. cc);
  leaves = leaves first second [] greets.cause greets.asked greets.answers [] greets.sent (young_first first second) plain_hello (no_revoke_line greets 6 refl) (no_restarted_line greets 6 refl) (no_reclaimed_line [] greets 6 refl) (λ c. cc) (λ c. cc) (λ c. cc);
  lines = record {
    next = λ n c. let p : 6 ≡ n = cc in (record { number = 6; node = Host client; deed = MakesCall stat }, (refl, p), inl refl);
    free = λ n c. ((λ o. λ p. elim p [ ]), λ m. none_idle 64 m.1);
    begins = λ k call b. inl (6, refl);
    stops = λ d. absurd (plain_hello _ _ _ Down d.3);
    no_server = (λ n c. cc, λ c. cc);
    applies_none = (refl, refl, refl);
  };
  ends = ends first second [] greets.cause greets.asked greets.answers [] greets.sent (young_first first second) plain_hello (no_revoke_line greets 6 refl) (no_restarted_line greets 6 refl) (no_reclaimed_line [] greets 6 refl) (λ c. cc) (λ c. cc) (λ c. cc) (lines_of script (Host client));
}

pub meets_enters : HostMay script client one enters
meets_enters = record {
  tokens = may_enters;
  takes = takes_all one enters refl (λ w t a. absurd (none_answers_two w a));
  stance = stance_two;
  answers = no_answers one enters stance_two refl refl refl turn_two (λ reply can. let p : None ≡ Some reply = ap reply_now (sym asks_two) ∙ can.settled in cc);
  asks = asks_enters;
  gives = gives first second one enters.cause enters.asked enters.answers [] enters.sent young_one plain_enters;
  revoked = revoked first second one enters.cause enters.asked enters.answers [] enters.sent young_one plain_enters (no_revoke one enters (to_host (Reclaimed welcome)) refl tt) (no_restarted one enters (to_host (Reclaimed welcome)) refl tt) no_reclaimed_two (λ c. cc) (λ c. cc) (λ c. cc);
  resends = resends first second one enters.cause enters.asked enters.answers [] enters.sent young_one plain_enters (no_revoke one enters (to_host (Reclaimed welcome)) refl tt) (no_restarted one enters (to_host (Reclaimed welcome)) refl tt) no_reclaimed_two (λ c. cc) (λ c. cc) (λ c. cc);
  leaves = leaves first second one enters.cause enters.asked enters.answers [] enters.sent young_one plain_enters (no_revoke one enters (to_host (Reclaimed welcome)) refl tt) (no_restarted one enters (to_host (Reclaimed welcome)) refl tt) no_reclaimed_two (λ c. cc) (λ c. cc) (λ c. cc);
  lines = by_message one enters (to_host (Reclaimed welcome)) refl refl refl refl (none_begins enters refl (λ a m. elim m [ ])) (λ d. plain_enters _ _ _ Down d.3);
  ends = ends first second one enters.cause enters.asked enters.answers [] enters.sent young_one plain_enters (no_revoke one enters (to_host (Reclaimed welcome)) refl tt) (no_restarted one enters (to_host (Reclaimed welcome)) refl tt) no_reclaimed_two (λ c. cc) (λ c. cc) (λ c. cc) (lines_of script (Host client));
}

pub meets_fetches : HostMay script client two (fetches whole)
meets_fetches = record {
  tokens = may_fetches;
  takes = takes_all two (fetches whole) refl (λ w t a m. subst (λ (x : Bring). In t x.tokens) (sym (brings_three w a)) m);
  stance = stance_three;
  answers = no_answers two (fetches whole) stance_three refl refl refl turn_three cant_three;
  asks = asks_fetches;
  gives = gives first second two (fetches whole).cause (fetches whole).asked (fetches whole).answers [] (fetches whole).sent young_two plain_fetches;
  revoked = revoked first second two (fetches whole).cause (fetches whole).asked (fetches whole).answers [] (fetches whole).sent young_two plain_fetches (no_revoke two (fetches whole) (to_host (Done entered)) refl tt) (no_restarted two (fetches whole) (to_host (Done entered)) refl tt) no_reclaimed_three (λ c. cc) (λ c. cc) (λ c. cc);
  resends = resends first second two (fetches whole).cause (fetches whole).asked (fetches whole).answers [] (fetches whole).sent young_two plain_fetches (no_revoke two (fetches whole) (to_host (Done entered)) refl tt) (no_restarted two (fetches whole) (to_host (Done entered)) refl tt) no_reclaimed_three (λ c. cc) (λ c. cc) (λ c. cc);
  leaves = leaves first second two (fetches whole).cause (fetches whole).asked (fetches whole).answers [] (fetches whole).sent young_two plain_fetches (no_revoke two (fetches whole) (to_host (Done entered)) refl tt) (no_restarted two (fetches whole) (to_host (Done entered)) refl tt) no_reclaimed_three (λ c. cc) (λ c. cc) (λ c. cc);
  lines = by_message two (fetches whole) (to_host (Done entered)) refl refl refl refl (none_begins (fetches whole) refl (λ a m. elim m [ ])) (λ d. plain_fetches _ _ _ Down d.3);
  ends = ends first second two (fetches whole).cause (fetches whole).asked (fetches whole).answers [] (fetches whole).sent young_two plain_fetches (no_revoke two (fetches whole) (to_host (Done entered)) refl tt) (no_restarted two (fetches whole) (to_host (Done entered)) refl tt) no_reclaimed_three (λ c. cc) (λ c. cc) (λ c. cc) (lines_of script (Host client));
}

pub meets_takes : HostMay script client three (takes whole)
meets_takes = record {
  tokens = may_takes;
  takes = record {
    all = λ w t u m free. (t, subst (λ (x : Bring). In t x.tokens) (sym (brings_four w u.0)) m, refl);
    once = λ t u m n. two_of t u (one_of t m) (one_of u n);
  };
  stance = stance_four;
  answers = answers_stat three (takes whole) stance_four 1 false refl refl refl refl refl refl refl (inr (is_open_three, not_ended_four)) turn_four can_four replies_four (inr (refl, (is_open_three, not_ended_four))) none_asking_four none_changing_four;
  asks = asks_nothing three (takes whole) stance_four takes_nothing none_asking_four none_changing_four none_open_four;
  gives = gives first second three (takes whole).cause (takes whole).asked (takes whole).answers (takes whole).taken [] young_three plain_takes;
  revoked = revoked first second three (takes whole).cause (takes whole).asked (takes whole).answers (takes whole).taken [] young_three plain_takes (no_revoke three (takes whole) (to_host (Grant (granted whole))) refl tt) (no_restarted three (takes whole) (to_host (Grant (granted whole))) refl tt) no_reclaimed_four (λ c. cc) (λ c. cc) (λ c. cc);
  resends = resends first second three (takes whole).cause (takes whole).asked (takes whole).answers (takes whole).taken [] young_three plain_takes (no_revoke three (takes whole) (to_host (Grant (granted whole))) refl tt) (no_restarted three (takes whole) (to_host (Grant (granted whole))) refl tt) no_reclaimed_four (λ c. cc) (λ c. cc) (λ c. cc);
  leaves = leaves first second three (takes whole).cause (takes whole).asked (takes whole).answers (takes whole).taken [] young_three plain_takes (no_revoke three (takes whole) (to_host (Grant (granted whole))) refl tt) (no_restarted three (takes whole) (to_host (Grant (granted whole))) refl tt) no_reclaimed_four (λ c. cc) (λ c. cc) (λ c. cc);
  lines = by_message three (takes whole) (to_host (Grant (granted whole))) refl refl refl refl (none_begins (takes whole) refl late) (λ d. takes_nothing _ _ _ Down d.3);
  ends = ends first second three (takes whole).cause (takes whole).asked (takes whole).answers (takes whole).taken [] young_three plain_takes (no_revoke three (takes whole) (to_host (Grant (granted whole))) refl tt) (no_restarted three (takes whole) (to_host (Grant (granted whole))) refl tt) no_reclaimed_four (λ c. cc) (λ c. cc) (λ c. cc) (lines_of script (Host client));
}
  where
    late : (a : Answer) → In a (answer 1 false ∷ []) → a.first ≡ true → ⊥
    late a (inl p) e = let q : false ≡ true = ap (λ (x : Answer). x.first) (sym p) ∙ e in cc
    late a (inr p) e = elim p [ ]

pub meets_from_cache : HostMay script client four from_cache
meets_from_cache = record {
  tokens = may_cache;
  takes = takes_all four from_cache refl (λ w t a. absurd (none_answers_line four from_cache 7 refl w a));
  stance = stance_five;
  answers = answers_stat four from_cache stance_five 2 true refl refl refl refl refl refl refl begun turn_five can_five replies_five (inl refl) none_asking_five none_changing_five;
  asks = asks_nothing four from_cache stance_five cache_nothing none_asking_five none_changing_five none_open_five;
  gives = gives first second four from_cache.cause from_cache.asked from_cache.answers [] [] young_four plain_cache;
  revoked = revoked first second four from_cache.cause from_cache.asked from_cache.answers [] [] young_four plain_cache (no_revoke_line from_cache 7 refl) (no_restarted_line from_cache 7 refl) (no_reclaimed_line four from_cache 7 refl) (λ c. cc) (λ c. cc) (λ c. cc);
  resends = resends first second four from_cache.cause from_cache.asked from_cache.answers [] [] young_four plain_cache (no_revoke_line from_cache 7 refl) (no_restarted_line from_cache 7 refl) (no_reclaimed_line four from_cache 7 refl) (λ c. cc) (λ c. cc) (λ c. cc);
  leaves = leaves first second four from_cache.cause from_cache.asked from_cache.answers [] [] young_four plain_cache (no_revoke_line from_cache 7 refl) (no_restarted_line from_cache 7 refl) (no_reclaimed_line four from_cache 7 refl) (λ c. cc) (λ c. cc) (λ c. cc);
  lines = record {
    next = λ n c. let p : 7 ≡ n = cc in (record { number = 7; node = Host client; deed = MakesCall stat }, (refl, p), inr (answer 2 true, inl refl, refl, refl, refl));
    free = λ n c. (none_open_four, λ m. few first second four from_cache.cause from_cache.asked from_cache.answers [] [] young_four plain_cache 62 m.1);
    begins = λ k call b. inl (7, refl);
    stops = λ d. absurd (cache_nothing _ _ _ Down d.3);
    no_server = (λ n c. cc, λ c. cc);
    applies_none = (refl, refl, refl);
  };
  ends = ends first second four from_cache.cause from_cache.asked from_cache.answers [] [] young_four plain_cache (no_revoke_line from_cache 7 refl) (no_restarted_line from_cache 7 refl) (no_reclaimed_line four from_cache 7 refl) (λ c. cc) (λ c. cc) (λ c. cc) (lines_of script (Host client));
}
  where
    begun : HasCall four from_cache 2 stat
    begun = inl (inr (answer 2 true, inl refl, refl, refl, refl))
