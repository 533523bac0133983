-- What a host says again: each message is one that may be, and is sound.
use Rattle.base_types.specs.declared.ids.FilesetId.{FilesetId}
use Rattle.base_types.specs.declared.ids.ServerId.{ServerId}
use Rattle.host_asks.specs.Claiming.{changed_number, claim_of, claimed_tokens, filesets_of, given_number, is_claimed}
use Rattle.host_asks.specs.Claiming.{outstanding_at, with_its_fileset}
use Rattle.host_gives.specs.Giving.{IsSound as IsSoundGives, number_of, outstanding}
use Rattle.host_leaves.specs.Sending.{message_to, with_once}
use Rattle.host_manager.proofs.Folding.{IsRequest}
use Rattle.host_manager.proofs.Folding.IsRequest.{AskedChange, AskedFetch}
use Rattle.host_tables.proofs.Declared.{home_is, site_declared, site_is}
use Rattle.host_tables.proofs.HearingParts.{server_is}
use Rattle.host_tables.proofs.Lists.{by_test, filter_in, in_any, in_either, in_filter, in_left, in_map, in_right}
use Rattle.host_tables.proofs.Lists.{map_in}
use Rattle.host_tables.proofs.Outstanding.{first_outstanding, number_is, outstanding_is}
use Rattle.host_tables.proofs.Tidy.{again_sound, home_number}
use Rattle.host_tables.specs.Saying.{ClaimFrom, IsFirst, IsOld, SaysAgain}
use Rattle.host_tables.specs.Saying.SaysAgain.{OfBye, OfChange, OfClaim, OfFetch, OfGive, OfHello}
use Rattle.host_tables.specs.Tables.{held_of, site_at}
use Rattle.host_tables.specs.Tidy.{IsOutgoing, IsTidy, IsTidyToken}
use Rattle.host_tables.specs.Updates.{home_at}
use Rattle.host_tables.specs.WholeSteps.{RepeatsFrom, moved_of}
use Rattle.host_gives.specs.declared.leavings.Leaving.{Leaving}
use Rattle.host_tables.specs.declared.calls.Request.{Request}
use Rattle.host_tables.specs.declared.calls.Request.TheVariants.{Change as AChange, Fetch as AFetch}
use Rattle.host_tables.specs.declared.sites.Site.{Site}
use Rattle.host_tables.specs.declared.tables.Tables.{Tables}
use Rattle.message_types.specs.Soundness.{IsServer, IsSound}
use Rattle.message_types.specs.declared.asking.Change.{Change as ChangeOf}
use Rattle.message_types.specs.declared.giving.Give.{Give}
use Rattle.message_types.specs.declared.giving.Outstanding.{Outstanding}
use Rattle.message_types.specs.declared.message.Body.{Body}
use Rattle.message_types.specs.declared.message.Body.TheVariants.{Bye, Change, Fetch, GiveBack, Hello, Reclaim}
use Rattle.message_types.specs.declared.message.Message.{Message}
use Rattle.run_rules.specs.HostMay.{LearnsRestart}
use Rattle.run_rules.specs.Messages.{home}
use Rattle.run_rules.specs.Past.{In}
use Rattle.run_rules.specs.declared.step.Cause.TheVariants.{Lapse}
use Rattle.run_rules.specs.declared.step.Step.{Step}
use Rattle.std.proofs.Common.{Bool, List, None, Option, Some, [], ap, arith, eq-eqb, eqb-true, false, fold}
use Rattle.std.proofs.Common.{if◌then◌else◌, inl, inr, ltb-true, map, nat_lt, refl, subst, sym, true, ℕ, ◌++◌, ◌/◌}
use Rattle.std.proofs.Common.{◌<◌, ◌==◌, ◌∙◌, ◌∷◌, ◌≡◌, ◌⊎◌}
use Rattle.std.proofs.lemmas.Bool.{and_from, and_parts, lt-ltb}
use Rattle.std.specs.List.{list_any}
use Rattle.std.specs.Option.{option_map_or}
use Rattle.token_types.specs.declared.token.Token.{Token}
use Rattle.tree_calls.specs.declared.roster.Roster.{Roster}

-- a message of the host that says again what is outstanding
pub record SaidAgain (roster : Roster) (m : Tables) (past : List Step) (s : Step) (y : Message) : Type 0 where
  pub out : IsOutgoing m y
  pub known : IsServer roster y.server
  pub repeats : RepeatsFrom m past s y

module _ (roster : Roster) (m : Tables) (tidy : IsTidy roster m) (past : List Step) (s : Step) where
  pub again_is_sound : (y : Message) → SaidAgain roster m past s y → IsSound roster y
  again_is_sound y a = again_sound roster m (moved_of m) past s y tidy a.out a.known a.repeats.why

  out_is : (v : ServerId) (b : Body) → IsOutgoing m (message_to m v b)
  out_is v b = record { way = refl; host_is = refl; no_moves = refl; epoch_is = refl }

  -- to a server, where this body may be said to it again
  to_server : (v : ServerId) (b : Body) → IsServer roster v → SaysAgain m (moved_of m) past s v b
      → (b ≡ Hello → (site_at m.sites v).greeted ≡ true) → SaidAgain roster m past s (message_to m v b)
  to_server v b known why hello = record {
    out = out_is v b;
    known = known;
    repeats = record { epoch = refl; no_moves = refl; why = why; greeted = hello };
  }

  -- a Hello where the host has greeted
  pub hello_again : (site : Site) → In site m.sites → site.greeted ≡ true
      → SaidAgain roster m past s (message_to m site.server Hello)
  hello_again site i e = to_server site.server Hello (site_declared roster m tidy site i) OfHello
      (λ h. ap (λ (z : Site). z.greeted) (site_is roster m tidy site i) ∙ e)

  -- a Bye where it has said it
  pub bye_again : (site : Site) → In site m.sites → site.said_bye ≡ true
      → SaidAgain roster m past s (message_to m site.server Bye)
  bye_again site i e = to_server site.server Bye (site_declared roster m tidy site i)
      (OfBye (ap (λ (z : Site). z.said_bye) (site_is roster m tidy site i) ∙ e)) (λ h. absurd (cc))

  -- the outstanding give-back of a fileset
  pub give_again : IsSoundGives m.gives → (fs : FilesetId) (z : Message) → outstanding m.gives fs ≡ Some z
      → SaidAgain roster m past s (message_to m (home_at fs) z.body)
  give_again sound fs z e =
      let r = outstanding_is m.gives sound fs z e in
      let g : Give = r.0 in
      let t = tidy.gives r.3.message g r.3.within r.3.body in
      let at : home_at fs ≡ home g.fid.fileset =
      ap home_at (sym r.2) ∙ home_is roster m tidy g.fid.fileset t.declared in
      subst (λ (b : Body). SaidAgain roster m past s (message_to m (home_at fs) b)) (sym r.1)
      (to_server (home_at fs) (GiveBack g) (subst (IsServer roster) (sym at) t.declared)
      (OfGive g r.3 (sym at)) (λ h. absurd (cc)))

  -- the outstanding request
  pub request_again : (y : Message) → IsRequest m y m.request → SaidAgain roster m past s y
  request_again y q = by_kind m.request refl q
    where
      by_kind : (r : Option Request) → m.request ≡ r → IsRequest m y r → SaidAgain roster m past s y
      by_kind _ e (AskedFetch f k) =
          let t = tidy.fetch f e in
          let at = home_is roster m tidy f.fid.fileset t.declared in
          subst (SaidAgain roster m past s) (sym k)
          (to_server (home_at f.fid.fileset) (Fetch f) (subst (IsServer roster) (sym at) t.declared)
          (OfFetch f e (sym at)) (λ h. absurd (cc)))
      by_kind _ e (AskedChange v c k) =
          subst (SaidAgain roster m past s) (sym k)
          (to_server v (Change c) (tidy.change v c e).declared (OfChange c e) (λ h. absurd (cc)))

  -- # Claims
  in_once : (fss : List FilesetId) (fs : FilesetId) → In fs (with_once fss fs)
  in_once fss fs = elim (by_test (list_any (λ (other : FilesetId). other.0 == fs.0) fss)) [
    | inl t ↦
        let r = in_any (λ (other : FilesetId). other.0 == fs.0) fss t in
        let n = eqb-true r.0.0 fs.0 r.2 in
        let same : r.0 ≡ fs = λ i. record { 0 = n i } in
        subst (λ (b : Bool). In fs (if b then fss else fss ++ fs ∷ [])) (sym t)
        (subst (λ (x : FilesetId). In x fss) same r.1)
    | inr f ↦ subst (λ (b : Bool). In fs (if b then fss else fss ++ fs ∷ [])) (sym f)
        (in_right fss (fs ∷ []) fs (inl refl))
  ]

  once_keeps : (fss : List FilesetId) (fs other : FilesetId) → In other fss → In other (with_once fss fs)
  once_keeps fss fs other i = by_if (list_any (λ (x : FilesetId). x.0 == fs.0) fss)
    where
      by_if : (b : Bool) → In other (if b then fss else fss ++ fs ∷ [])
      by_if true = i
      by_if false = in_left fss (fs ∷ []) other i

  once_from : (fss : List FilesetId) (fs other : FilesetId) → In other (with_once fss fs)
      → In other fss ⊎ (other ≡ fs)
  once_from fss fs other i = by_if (list_any (λ (x : FilesetId). x.0 == fs.0) fss) i
    where
      by_if : (b : Bool) → In other (if b then fss else fss ++ fs ∷ []) → In other fss ⊎ (other ≡ fs)
      by_if true j = inl j
      by_if false j = elim (in_either fss (fs ∷ []) other j) [
        | inl k ↦ inl k
        | inr k ↦ elim k [ inl e ↦ inr e | inr n ↦ elim n [ ] ]
      ]

  filesets_keep : (fss : List FilesetId) (ts : List Token) (fs : FilesetId) → In fs fss
      → In fs (fold with_its_fileset fss ts)
  filesets_keep fss [] fs i = i
  filesets_keep fss (t ∷ ts) fs i =
      filesets_keep (with_its_fileset fss t) ts fs (once_keeps fss t.fid.fileset fs i)

  filesets_have : (fss : List FilesetId) (ts : List Token) (t : Token) → In t ts
      → In t.fid.fileset (fold with_its_fileset fss ts)
  filesets_have fss [] t i = elim i [ ]
  filesets_have fss (x ∷ ts) t (inl e) = filesets_keep (with_its_fileset fss x) ts t.fid.fileset
      (subst (λ (z : Token). In z.fid.fileset (with_its_fileset fss x)) (sym e) (in_once fss x.fid.fileset))
  filesets_have fss (x ∷ ts) t (inr i) = filesets_have (with_its_fileset fss x) ts t i

  filesets_from : (fss : List FilesetId) (ts : List Token) (fs : FilesetId) → In fs (fold with_its_fileset fss ts)
      → In fs fss ⊎ ((t : Token) × In t ts × (t.fid.fileset ≡ fs))
  filesets_from fss [] fs i = inl i
  filesets_from fss (x ∷ ts) fs i = elim (filesets_from (with_its_fileset fss x) ts fs i) [
    | inl j ↦ elim (once_from fss x.fid.fileset fs j) [ inl k ↦ inl k | inr e ↦ inr (x, inl refl, sym e) ]
    | inr r ↦ inr (r.0, inr r.1, r.2)
  ]

  module _ (sound : IsSoundGives m.gives) (v : ServerId) where
    abbrev epoch : ℕ
    epoch = (site_at m.sites v).epoch

    abbrev all : List Token
    all = held_of m ++ map (λ (left : Leaving). left.token) m.leaving

    old_test : (t : Token) → IsOld v epoch t.id → is_claimed m v t ≡ true
    old_test t o = and_from (t.id.server.0 == v.0) (nat_lt t.id.epoch epoch)
        (eq-eqb t.id.server.0 v.0 (ap (λ (w : ServerId). w.0) o.0)) (lt-ltb t.id.epoch epoch o.1)

    test_old : (t : Token) → is_claimed m v t ≡ true → IsOld v epoch t.id
    test_old t e =
        let p = and_parts (t.id.server.0 == v.0) (nat_lt t.id.epoch epoch) e in
        (server_is t.id.server v p.0, ltb-true t.id.epoch epoch p.1)

    claimed_in : (t : Token) → In t all → IsOld v epoch t.id → In t (claimed_tokens m v)
    claimed_in t i o = filter_in (is_claimed m v) all t i (old_test t o)

    claimed_from : (t : Token) → In t (claimed_tokens m v) → IsOld v epoch t.id
        × (In t (held_of m) ⊎ ((y : Leaving) × In y m.leaving × (y.token ≡ t)))
    claimed_from t i =
        let r = in_filter (is_claimed m v) all t i in (
          test_old t r.1,
          elim (in_either (held_of m) (map (λ (left : Leaving). left.token) m.leaving) t r.0) [
            | inl j ↦ inl j
            | inr j ↦ (let k = in_map (λ (left : Leaving). left.token) m.leaving t j in inr (k.0, k.1, sym k.2))
          ],
        )

    claimed_tidy : (t : Token) → In t (claimed_tokens m v) → IsTidyToken roster m.host t
    claimed_tidy t i = elim (claimed_from t i).1 [
      | inl h ↦ tidy.held t h
      | inr y ↦ subst (IsTidyToken roster m.host) y.2 (tidy.leaving y.0 y.1)
    ]

    -- each number is of a fileset of a token, at this server
    number_from : (o : Outstanding) → In o (claim_of m v).numbers
        → (fs : FilesetId) × (o ≡ outstanding_at m fs) × (home fs ≡ v) × IsServer roster v
    number_from o i =
        let r = in_map (outstanding_at m) (filesets_of (claimed_tokens m v)) o i in
        elim (filesets_from [] (claimed_tokens m v) r.0 r.1) [
          | inl n ↦ elim n [ ]
          | inr t ↦ (
              let its = claimed_tidy t.0 t.1 in
              let old = (claimed_from t.0 t.1).0.0 in
              let at : home r.0 ≡ v = ap home (sym t.2) ∙ (sym its.issued ∙ old) in
              (r.0, r.2, at, subst (IsServer roster) (ap home t.2 ∙ at) its.declared))
        ]

    not_none : (fs : FilesetId) → home fs ≡ v → IsServer roster v → fs.0 ≡ 0 → ⊥
    not_none fs at d e =
        let n = home_number fs in
        let q = ap (λ (w : ServerId). w.0) at in
        let low = d.first in
        let z : fs.0 / 65536 ≡ 0 = ap (λ (k : ℕ). k / 65536) e in omega (arith, n, q, low, z)

    given_one : (fs : FilesetId) → 0 < given_number m fs
        → (g : Give) × IsFirst m.gives g × (g.fid.fileset ≡ fs) × (g.number ≡ given_number m fs)
    given_one fs l = by_one (outstanding m.gives fs) refl
      where
        by_one : (o : Option Message) → outstanding m.gives fs ≡ o
            → (g : Give) × IsFirst m.gives g × (g.fid.fileset ≡ fs) × (g.number ≡ given_number m fs)
        by_one None e = absurd (let n : given_number m fs ≡ 0 =
            ap (λ (o : Option Message). option_map_or number_of o 0) e in omega (arith, l, n))
        by_one (Some z) e =
            let r = outstanding_is m.gives sound fs z e in
            (r.0, r.3, r.2, sym (ap (λ (o : Option Message). option_map_or number_of o 0) e ∙ number_is z r.0 r.1))

    given_all : (fs : FilesetId) (g : Give) → IsFirst m.gives g → g.fid.fileset ≡ fs → given_number m fs ≡ g.number
    given_all fs g first at =
        let r = first_outstanding m.gives sound g first in
        ap (given_number m) (sym at) ∙ (ap (λ (o : Option Message). option_map_or number_of o 0) r.1
        ∙ number_is r.0 g r.2)

    changed_one : (r : Option Request) (fs : FilesetId) → 0 < changed_number r fs
        → (w : ServerId) × (c : ChangeOf) × (r ≡ Some (AChange w c)) × (c.fileset ≡ fs) × (c.number
        ≡ changed_number r fs)
    changed_one None fs l = absurd (let k : 0 < 0 = l in omega (arith, k))
    changed_one (Some (AFetch f)) fs l = absurd (let k : 0 < 0 = l in omega (arith, k))
    changed_one (Some (AChange w c)) fs l = elim (by_test (c.fileset.0 == fs.0)) [
      | inl t ↦
          let n = eqb-true c.fileset.0 fs.0 t in
          (w, c, refl, (λ i. record { 0 = n i }), sym (ap (λ (b : Bool). if b then c.number else 0) t))
      | inr f ↦ absurd (let n : changed_number (Some (AChange w c)) fs ≡ 0 =
          ap (λ (b : Bool). if b then c.number else 0) f in omega (arith, l, n))
    ]

    changed_all : (fs : FilesetId) (w : ServerId) (c : ChangeOf) → m.request ≡ Some (AChange w c) → c.fileset ≡ fs
        → changed_number m.request fs ≡ c.number
    changed_all fs w c e at =
        ap (λ (r : Option Request). changed_number r fs) e
        ∙ ap (λ (b : Bool). if b then c.number else 0) (eq-eqb c.fileset.0 fs.0 (ap (λ (x : FilesetId). x.0) at))

    pub claim_from : ClaimFrom m v (claim_of m v)
    claim_from = record {
      held = λ t i o. claimed_in t (in_left (held_of m) (map (λ (left : Leaving). left.token) m.leaving) t i) o;
      given = λ y i o. claimed_in y.token (in_right (held_of m) (map (λ (left : Leaving). left.token) m.leaving) y.token
          (map_in (λ (left : Leaving). left.token) m.leaving y i)) o;
      only = claimed_from;
      numbers = λ t i. (
        outstanding_at m t.fid.fileset,
        map_in (outstanding_at m) (filesets_of (claimed_tokens m v)) t.fid.fileset
            (filesets_have [] (claimed_tokens m v) t i),
        refl,
      );
      moves = λ o i. ap (λ (z : Outstanding). z.moves) (number_from o i).1;
      gives = λ o i l.
          let r = number_from o i in
          let k = given_one r.0 (subst (λ (z : Outstanding). 0 < z.give) r.1 l) in (
            k.0,
            k.1,
            k.2 ∙ sym (ap (λ (z : Outstanding). z.fileset) r.1),
            k.3 ∙ sym (ap (λ (z : Outstanding). z.give) r.1),
          );
      gives_all = λ o g i first at.
          let r = number_from o i in
          ap (λ (z : Outstanding). z.give) r.1
          ∙ given_all r.0 g first (at ∙ ap (λ (z : Outstanding). z.fileset) r.1);
      changes = λ o i l.
          let r = number_from o i in
          let k = changed_one m.request r.0 (subst (λ (z : Outstanding). 0 < z.change) r.1 l) in (
            k.0,
            k.1,
            k.2,
            k.3 ∙ sym (ap (λ (z : Outstanding). z.fileset) r.1),
            k.4 ∙ sym (ap (λ (z : Outstanding). z.change) r.1),
            λ e. absurd (not_none r.0 r.2 r.3 (sym (ap (λ (z : Outstanding). z.fileset.0) r.1) ∙ e)),
          );
      changes_all = λ o w c i e at why.
          let r = number_from o i in
          ap (λ (z : Outstanding). z.change) r.1
          ∙ changed_all r.0 w c e (at ∙ ap (λ (z : Outstanding). z.fileset) r.1);
    }

    -- a claim, where a server has restarted, or at a lapse while it waits
    pub claim_again : IsServer roster v → LearnsRestart past s v ⊎ ((s.cause ≡ Lapse)
        × ((site_at m.sites v).claimed ≡ true)) → SaidAgain roster m past s (message_to m v (Reclaim (claim_of m v)))
    claim_again known why =
        to_server v (Reclaim (claim_of m v)) known (OfClaim (claim_of m v) claim_from refl why) (λ h. absurd (cc))
