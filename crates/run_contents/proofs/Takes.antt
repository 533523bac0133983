-- What a host shows by the tokens that it takes is what the rules of contents want.
use Rattle.std.proofs.Common.{◌≡◌, ℕ, ◌⊎◌, ◌&&◌, Bool, true, false, if◌then◌else◌, Some, None, List, [], ◌∷◌, inl}
use Rattle.std.proofs.Common.{inr, sym, ◌∙◌, ap, subst, refl}
use Rattle.std.proofs.lemmas.Bool.{and_parts}
use Rattle.base_types.specs.Ids.{same_fid}
use Rattle.base_types.specs.declared.ids.Fid.{Fid}
use Rattle.base_types.specs.declared.ids.FilesetId.{FilesetId}
use Rattle.base_types.specs.declared.ids.HostId.{HostId}
use Rattle.base_types.specs.declared.ids.ServerId.{ServerId}
use Rattle.need_host.specs.Shows.{shows}
use Rattle.tree_answers.proofs.Followed.{same_fid_itself}
use Rattle.message_types.specs.declared.message.Body.{Body}
use Rattle.message_types.specs.declared.message.Body.TheVariants.{Grant, Done}
use Rattle.message_types.specs.declared.message.Message.{Message}
use Rattle.message_types.specs.declared.telling.Bring.{Bring}
use Rattle.message_types.specs.declared.telling.Done.{Done as DoneOf}
use Rattle.message_types.specs.declared.telling.Grant.{Grant as GrantOf}
use Rattle.script_lines.specs.declared.script.Script.{Script}
use Rattle.token_types.specs.declared.token.Token.{Token}
use Rattle.tree_laws.proofs.Steps.{fid_is}
use Rattle.tree_laws.specs.Parts.{Part, Seen}
use Rattle.run_rules.specs.HostMay.{HostMay}
use Rattle.run_rules.specs.Messages.{About, Asking, Changing, ComesIn}
use Rattle.run_rules.specs.Past.{In, appended}
use Rattle.run_rules.specs.Tokens.{Uses}
use Rattle.run_rules.specs.Views.{is_shown, part_told}
use Rattle.run_parts.specs.Contents.{ByDone, Contents, Shows, TakesShow}
use Rattle.run_contents.proofs.Words.{any_in, in_any, both}
use Rattle.run_contents.specs.Steps.{HostRun, IsOfJournal, shown, told_by, told_in}
use Rattle.run_rules.specs.declared.step.Cause.{Cause}
use Rattle.run_rules.specs.declared.step.Cause.TheVariants.{Message as Came}
use Rattle.run_rules.specs.declared.step.Step.{Step}

-- a Grant that the cause is
pub record Tells (s : Step) (p : Part) (x : Seen p) : Type 0 where
  pub message : Message
  pub grant : GrantOf
  pub came : s.cause ≡ Came message
  pub body : message.body ≡ Grant grant
  pub tells : part_told grant p ≡ x

tells_body : (s : Step) (m : Message) (b : Body) (p : Part) (x : Seen p) → s.cause ≡ Came m → m.body ≡ b
    → told_by b p ≡ Some x → Tells s p x
tells_body s m (Grant g) p x e q i =
    record { message = m; grant = g; came = e; body = q; tells = (let k : Some (part_told g p) ≡ Some x = i in cc) }
tells_body s m _ p x e q i = absurd (let k : None ≡ Some x = i in cc)

tells_cause : (s : Step) (c : Cause) (p : Part) (x : Seen p) → s.cause ≡ c → told_in c p ≡ Some x → Tells s p x
tells_cause s (Came m) p x e i = tells_body s m m.body p x e refl i
tells_cause s _ p x e i = absurd (let k : None ≡ Some x = i in cc)

-- what a step shows, it shows under a token that it takes
shown_under : (s : Step) (f : Fid) (p : Part) (x : Seen p) → shown s f p ≡ Some x → (is_shown s f p ≡ true)
    × (told_in s.cause p ≡ Some x)
shown_under s f p x = go (is_shown s f p)
  where
    go : (b : Bool) → (if b then told_in s.cause p else None) ≡ Some x → (b ≡ true) × (told_in s.cause p ≡ Some x)
    go true e = (refl, e)
    go false e = absurd (let k : None ≡ Some x = e in cc)

message_of : (c : Cause) (m n : Message) → c ≡ Came m → c ≡ Came n → m ≡ n
message_of c m n p q = let r : Came m ≡ Came n = sym p ∙ q in cc

body_of : (s : Step) (v : ServerId) (e n : ℕ) (b : Body) (m : Message) → ComesIn s v e n b → s.cause ≡ Came m
    → m.body ≡ b
body_of s v e n b m c q = ap (λ (y : Message). y.body) (message_of s.cause m c.0 q c.1) ∙ c.5

same_grant : (g k : GrantOf) → Grant g ≡ Grant k → g ≡ k
same_grant g k e = cc

no_done : (g : GrantOf) (d : DoneOf) → Grant g ≡ Done d → ⊥
no_done g d e = cc

module _ (c : Contents) (same : IsOfJournal c) (script : Script) (host : HostId) (past : List Step) (s : Step)
    (run : HostRun script host past) (m : HostMay script host past s) where
  abbrev Taken : Token → Type 0
  Taken t = (w : Bring) × Uses past s w × In t w.tokens × (t.fid ≡ w.fid)

  taken : (t : Token) → In t s.taken → Taken t
  taken t i = let w = m.tokens.takes t i in (w.0, w.1, w.2, w.3)

  -- by a Grant or by a Done
  abbrev ByGrant : Token → Type 0
  ByGrant t =
      (g : GrantOf)
      × (Uses past s g.bring × About past s g.bring.fid.fileset (Grant g) × In t g.bring.tokens × (t.fid ≡ g.bring.fid))

  ways : (t : Token) → Taken t → ByGrant t ⊎ ByDone past s t
  ways t (w, uses, i, file) =
      elim uses.0 [
        | inl g ↦ inl (
          g.0,
          subst (λ (y : Bring). Uses past s y × About past s y.fid.fileset (Grant g.0) × In t y.tokens
              × (t.fid ≡ y.fid)) (sym g.2) (uses, g.1, i, file),
        )
        | inr d ↦ inr (
          d.0,
          subst (λ (y : FilesetId). About past s y (Done d.0))
              (sym (ap (λ (z : Fid). z.fileset) file)) d.1,
          subst (λ (y : Bring). In t y.tokens) (sym d.2) i,
        )
      ]

  told_is : (f : Fid) (p : Part) (x : Seen p) (t : Token) → t.fid ≡ f → shows t.kind p ≡ true → Tells s p x → ByGrant t
      ⊎ ByDone past s t → Shows c past s f p x
  told_is f p x t file cov k (inl (g, (uses, about, i, at))) =
      let one : g ≡ k.grant = same_grant g k.grant (sym (body_of s _ _ _ (Grant g) k.message about k.came) ∙ k.body) in
      record {
        grant = g;
        token = t;
        uses = uses;
        came = about;
        brings = i;
        file = sym at ∙ file;
        covers = cov;
        tells = same.tells g p ∙ (ap (λ (y : GrantOf). part_told y p) one ∙ k.tells);
      }
  told_is f p x t file cov k (inr (d, about, i)) =
      absurd (no_done k.grant d (sym k.body ∙ body_of s _ _ _ (Done d) k.message about k.came))

  shown_by' : (f : Fid) (p : Part) (x : Seen p) → c.shown s f p ≡ Some x → Shows c past s f p x
  shown_by' f p x e =
      let k = shown_under s f p x (sym (same.shown s f p) ∙ e) in
      let t = any_in (λ (token : Token). same_fid token.fid f && shows token.kind p) s.taken k.0 in
      let q = and_parts (same_fid t.0.fid f) (shows t.0.kind p) t.2 in
      told_is f p x t.0 (fid_is t.0.fid f q.0) q.1 (tells_cause s s.cause p x refl k.1) (ways t.0 (taken t.0 t.1))

  -- the Grant that is the cause tells
  tells_of : (g : GrantOf) (v : ServerId) (e n : ℕ) (p : Part) → ComesIn s v e n (Grant g)
      → told_in s.cause p ≡ Some (part_told g p)
  tells_of g v e n p a = subst (λ (y : Cause). told_in y p ≡ Some (part_told g p)) (sym a.1)
      (subst (λ (b : Body). told_by b p ≡ Some (part_told g p)) (sym a.5) refl)

  shows_all' : (t : Token) (p : Part) → In t s.taken → shows t.kind p ≡ true
      → ((x : Seen p) × (c.shown s t.fid p ≡ Some x)) ⊎ ByDone past s t
  shows_all' t p i cov = elim (ways t (taken t i)) [
    | inl g ↦ inl (part_told g.0 p, same.shown s t.fid p ∙ now g)
    | inr d ↦ inr d
  ]
    where
      here : is_shown s t.fid p ≡ true
      here = in_any (λ (token : Token). same_fid token.fid t.fid && shows token.kind p) s.taken t i
          (both (same_fid t.fid t.fid) (shows t.kind p) (same_fid_itself t.fid) cov)

      now : (g : ByGrant t) → shown s t.fid p ≡ Some (part_told g.0 p)
      now g = ap (λ (b : Bool). if b then told_in s.cause p else None) here ∙ tells_of g.0 _ _ _ p g.1.1

  -- one request is outstanding, so after it is answered none is that was so before
  one_before : (past : List Step) → HostRun script host past → (fs gs : FilesetId) (n k : ℕ) → Asking past fs n
      → Asking past gs k → (fs ≡ gs) × (n ≡ k)
  one_before [] run fs gs n k a b = elim a [ ]
  one_before (s ∷ past) run fs gs n k a b = run.1.asks.one_fetch fs gs n k a b

  both_before : (past : List Step) → HostRun script host past → (v : ServerId) (fs gs : FilesetId) (n k : ℕ)
      → Asking past fs n → Changing past v gs k → ⊥
  both_before [] run v fs gs n k a b = elim a [ ]
  both_before (s ∷ past) run v fs gs n k a b = run.1.asks.one_of_both v fs gs n k a b

  takes_last' : (t : Token) (p : Part) (fs : FilesetId) (n : ℕ) → In t s.taken → shows t.kind p ≡ true
      → Asking (s ∷ past) fs n → Asking past fs n → ⊥
  takes_last' t p fs n i cov after before =
      let w = taken t i in
      elim w.1.0 [
        | inl g ↦ (
            let one = one_before past run fs w.0.fid.fileset n w.0.number before g.3 in
            after.1 g.0 (subst (λ (y : FilesetId). About past s y (Grant g.0)) (sym one.0) g.1)
            (ap (λ (y : Bring). y.fid.fileset) g.2 ∙ sym one.0) (ap (λ (y : Bring). y.number) g.2 ∙ sym one.1)
            )
        | inr d ↦ both_before past run _ fs d.0.fileset n w.0.number before d.3
      ]

  pub takes_show : TakesShow c past s
  takes_show = record { shown_by = shown_by'; shows_all = shows_all'; takes_last = takes_last' }
