-- A message that is outstanding has been so since it was sent first.
use Rattle.std.proofs.Common.{Bool, List, [], ap, arith, false, inl, inr, refl, subst, sym, true, ℕ}
use Rattle.std.proofs.Common.{◌∙◌, ◌∷◌, ◌≡◌}
use Rattle.base_types.specs.declared.ids.FilesetId.{FilesetId}
use Rattle.base_types.specs.declared.ids.HostId.{HostId}
use Rattle.base_types.specs.declared.ids.ServerId.{ServerId}
use Rattle.script_lines.specs.declared.script.Script.{Script}
use Rattle.message_types.specs.declared.asking.Change.{Change as ChangeOf}
use Rattle.message_types.specs.declared.asking.Fetch.{Fetch as FetchOf}
use Rattle.message_types.specs.declared.giving.Give.{Give}
use Rattle.message_types.specs.declared.message.Body.{Body}
use Rattle.message_types.specs.declared.message.Body.TheVariants.{Bye, Change, Fetch, GiveBack, Hello}
use Rattle.message_types.specs.declared.message.Message.{Message}
use Rattle.run_examples.proofs.Words.{first_is, first_yes, is_first, moved}
use Rattle.run_rules.specs.HostDue.{IsUnanswered}
use Rattle.run_rules.specs.HostMay.{HostMay}
use Rattle.run_rules.specs.Messages.{Asking, Changing, HasStopped, Said, Sends, Stay}
use Rattle.run_rules.specs.Past.{Always, Once}
use Rattle.run_rules.specs.Plans.{resender_by}
use Rattle.base_types.specs.declared.ids.Node.TheVariants.{Host}
use Rattle.run_rules.specs.Tokens.{IsOutstanding, Made}
use Rattle.run_rules.specs.declared.step.Step.{Step}
use Rattle.run_tokens.proofs.Invariant.{Alone}

-- for which server a message counts that goes to a server: what isn't of a fileset, for that alone
abbrev pub IsFor : Body → ServerId → ServerId → Type 0
IsFor Hello to v = to ≡ v
IsFor Bye to v = to ≡ v
IsFor (Change c) to v = c.fileset.0 ≡ 0 → to ≡ v
IsFor _ to v = Unit {0}

abbrev pub SendsIt : ServerId → Body → Step → Type 0
SendsIt v b s = (to : ServerId) × (e n : ℕ) × Sends s to e n b × IsFor b to v

abbrev pub WasSent : ServerId → Body → List Step → Type 0
WasSent v b A = Once (λ before s. SendsIt v b s) A

pub for_itself : (b : Body) (v : ServerId) → IsFor b v v
for_itself Hello v = refl
for_itself Bye v = refl
for_itself (Change c) v = λ z. refl
for_itself _ v = tt

sent_so : (v to : ServerId) (e n : ℕ) (b : Body) → IsFor b to v → (A : List Step) → Said A to e n b → WasSent v b A
sent_so v to e n b is [] o = elim o [ ]
sent_so v to e n b is (s ∷ A) (inl p) = inl (to, e, n, p, is)
sent_so v to e n b is (s ∷ A) (inr o) = inr (sent_so v to e n b is A o)

pub said_so : (v : ServerId) (b : Body) (A : List Step) → WasSent v b A
    → (to : ServerId) × (e n : ℕ) × Said A to e n b × IsFor b to v
said_so v b [] o = elim o [ ]
said_so v b (s ∷ A) (inl k) = (k.0, k.1, k.2, inl k.3, k.4)
said_so v b (s ∷ A) (inr o) = let k = said_so v b A o in (k.0, k.1, k.2, inr k.3, k.4)

module _ (script : Script) (host : HostId) where
  -- what has become outstanding was sent
  pub give_said : (A : List Step) → Always (HostMay script host) A → (HasStopped A → ⊥) → (g : Give) → IsOutstanding A g
      → (v : ServerId) → WasSent v (GiveBack g) A
  give_said [] run live g o v = elim o.made [ ]
  give_said (s ∷ A) run live g o v = elim o.made [
    | inl now ↦ inl (new (λ old. let lt = run.1.tokens.makes_new g g now old.made refl in absurd (omega (arith, lt))))
    | inr made ↦ go (is_first A g) refl
        (λ old. inr (give_said A run.0 (λ st. live (st.0, st.1, st.2, inr st.3)) g old v)) made
  ]
    where
      new : (IsOutstanding A g → ⊥) → SendsIt v (GiveBack g) s
      new none = let x = run.1.gives.sends g o none live in (_, x.0, _, x.1, tt)

      go : (b : Bool) → is_first A g ≡ b → (IsOutstanding A g → WasSent v (GiveBack g) (s ∷ A)) → Made A g
          → WasSent v (GiveBack g) (s ∷ A)
      go true e older made = older (first_yes A g made e)
      go false e older made =
          inl (new (λ old. let t = first_is A g old in absurd (let z : true ≡ false = sym t ∙ e in cc)))

  pub was_sent : (A : List Step) → Always (HostMay script host) A → (HasStopped A → ⊥) → (v : ServerId) (n : ℕ)
      (b : Body) → IsUnanswered A v n b → WasSent v b A
  was_sent A run live v n Hello x = let k = x.0 in sent_so v v k.0 k.1 Hello refl A k.2
  was_sent A run live v n Bye x = let k = x.0 in sent_so v v k.0 k.1 Bye refl A k.2
  was_sent A run live v n (Fetch f) x = let k = x.0 in sent_so v k.0 k.1 k.2 (Fetch f) tt A k.3
  was_sent A run live v n (Change c) x = let k = x.0 in sent_so v k.0 k.1 k.2 (Change c) k.4 A k.3
  was_sent A run live v n (GiveBack g) x = give_said A run live g x.0 v
  was_sent A run live v n _ x = elim x [ ]

  module _ (A : List Step) (s : Step) (m : HostMay script host A s) where
    asking_back : (v : ServerId) (f : FetchOf) → WasSent v (Fetch f) A → Asking (s ∷ A) f.fid.fileset f.number
        → Asking A f.fid.fileset f.number
    asking_back v f sent x = elim x.0 [
      | inr old ↦ old
      | inl now ↦ (
          let g : FetchOf = now.0 in
          let fileset : g.fid.fileset ≡ f.fid.fileset = now.2 in
          let number : g.number ≡ f.number = now.3 in
          elim (m.asks.fetches g now.1) [
            | inl again ↦ subst (λ (y : FilesetId × ℕ). Asking A y.0 y.1) (λ i. (fileset i, number i)) again.1
            | inr new ↦ (
                let k = said_so v (Fetch f) A sent in
                let lt = new.next.above f.number (f, (k.0, k.1, k.2, k.3), sym fileset, refl) in
                absurd (omega (arith, lt, number))
                )
          ]
          )
    ]

    changing_back : (v : ServerId) (c : ChangeOf) → WasSent v (Change c) A → Changing (s ∷ A) v c.fileset c.number
        → Changing A v c.fileset c.number
    changing_back v c sent x = elim x.0 [
      | inr old ↦ old
      | inl now ↦ (
          let d : ChangeOf = now.0 in
          let fileset : d.fileset ≡ c.fileset = now.2 in
          let number : d.number ≡ c.number = now.3 in
          let sends = now.1 in
          elim (m.asks.changes sends.0 sends.1 sends.2 d sends.3) [
            | inl again ↦ subst (λ (y : FilesetId × ℕ). Changing A v y.0 y.1) (λ i. (fileset i, number i))
                (moved A sends.0 v d.fileset d.number sends.4 again.1)
            | inr new ↦ (
                let k = said_so v (Change c) A sent in
                let lt = new.next.above c.number (
                  c,
                  (
                    k.0,
                    k.1,
                    k.2,
                    k.3,
                    λ z. k.4 z ∙ sym (sends.4 (ap (λ (y : FilesetId). y.0) fileset ∙ z)),
                  ),
                  sym fileset,
                  refl,
                ) in
                absurd (omega (arith, lt, number))
                )
          ]
          )
    ]

    -- what is outstanding after a step, and was sent before it, was outstanding before it
    pub unanswered_back : Alone A → (v : ServerId) (n : ℕ) (b : Body) → WasSent v b A → IsUnanswered (s ∷ A) v n b
        → IsUnanswered A v n b
    unanswered_back alone v n Hello sent x =
        let k = said_so v Hello A sent in
        let to : k.0 ≡ v = k.4 in
        ((k.1, k.2, subst (λ (u : ServerId). Said A u k.1 k.2 Hello) to k.3), λ w. x.1 (inr w), x.2)
    unanswered_back alone v n Bye sent x =
        let k = said_so v Bye A sent in
        let to : k.0 ≡ v = k.4 in
        ((k.1, k.2, subst (λ (u : ServerId). Said A u k.1 k.2 Bye) to k.3), λ w. x.1 (inr w), x.2)
    unanswered_back alone v n (Fetch f) sent x =
        let k = said_so v (Fetch f) A sent in
        ((k.0, k.1, k.2, k.3), asking_back v f sent x.1, x.2)
    unanswered_back alone v n (Change c) sent x = (said_so v (Change c) A sent, changing_back v c sent x.1, x.2)
    unanswered_back alone v n (GiveBack g) sent x =
        let k = said_so v (GiveBack g) A sent in (
          record {
            made = (alone.said_made g k.0 k.1 k.2 k.3).0;
            unknown = λ known. x.0.unknown (inr known);
            first = λ w. w.4 (alone.said_first g w.0 k.0 k.1 k.2 k.3 w.1 w.2 w.3);
          },
          x.1,
        )
    unanswered_back alone v n _ sent x = elim x [ ]

    -- and it goes to the server at which it is outstanding
    pub goes_there : (v to : ServerId) (n e k : ℕ) (b : Body) (B : List Step) → IsUnanswered B v n b
        → Sends s to e k b → IsFor b to v → to ≡ v
    goes_there v to n e k Hello B x sends is = is
    goes_there v to n e k Bye B x sends is = is
    goes_there v to n e k (Fetch f) B x sends is =
        let here = (m.tokens.fetches f to e k sends).0 in
        ap (λ (y : Stay). y.server) (sym here ∙ x.2)
    goes_there v to n e k (GiveBack g) B x sends is =
        let here = (m.tokens.gives g to e k sends).1 in
        ap (λ (y : Stay). y.server) (sym here ∙ x.1)
    goes_there v to n e k (Change c) B x sends is = elim (m.tokens.changes c to e k sends).0 [
      | inl zero ↦ is zero.0
      | inr here ↦ elim x.2 [
        | inl zero ↦ is zero.0
        | inr there ↦ ap (λ (y : Stay). y.server) (sym here ∙ there)
      ]
    ]
    goes_there v to n e k _ B x sends is = elim x [ ]

-- a host sends again what is outstanding
pub host_resends : (A : List Step) (v : ServerId) (n : ℕ) (b : Body) → IsUnanswered A v n b → (m : Message)
    → resender_by b m ≡ Host m.host
host_resends A v n Hello x m = refl
host_resends A v n Bye x m = refl
host_resends A v n (Fetch f) x m = refl
host_resends A v n (Change c) x m = refl
host_resends A v n (GiveBack g) x m = refl
host_resends A v n _ x m = elim x [ ]
