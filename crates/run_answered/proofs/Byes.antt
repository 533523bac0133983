-- A host that has said Bye has no open call, and begins none.
use Rattle.std.proofs.Common.{List, ap, arith, inl, inr, length, refl, ℕ, ◌+◌, ◌∷◌, ◌≡◌}
use Rattle.std.proofs.lemmas.Option.{slice_get_within}
use Rattle.std.specs.Prelude.{[]}
use Rattle.base_types.specs.declared.ids.FilesetId.{FilesetId}
use Rattle.base_types.specs.declared.ids.HostId.{HostId}
use Rattle.base_types.specs.declared.ids.Node.TheVariants.{Host}
use Rattle.base_types.specs.declared.ids.ServerId.{ServerId}
use Rattle.message_types.specs.declared.asking.Change.{Change as ChangeOf}
use Rattle.message_types.specs.declared.asking.Fetch.{Fetch as FetchOf}
use Rattle.message_types.specs.declared.giving.Give.{Give}
use Rattle.message_types.specs.declared.message.Body.TheVariants.{Bye, Change, Fetch}
use Rattle.script_lines.specs.declared.script.Script.{Script}
use Rattle.token_types.specs.declared.token.Token.{Token}
use Rattle.run_contents.proofs.Calls.{use_owned}
use Rattle.run_contents.specs.Steps.{HostRun}
use Rattle.run_rules.specs.HostMay.{HostMay}
use Rattle.run_rules.specs.Messages.{Asking, Changing, HasSaid, IsWelcome, Said, Sends}
use Rattle.run_rules.specs.Past.{In}
use Rattle.run_rules.specs.Steps.{goes_with, lines_gone, lines_of}
use Rattle.run_rules.specs.Tokens.{IsKnown, LabelInUse, NoneOpen, Owns}
use Rattle.run_rules.specs.declared.step.Cause.{Cause}
use Rattle.run_rules.specs.declared.step.Cause.TheVariants.{End, Evict, Flushed, Freight, Lapse, Line as LineOf}
use Rattle.run_rules.specs.declared.step.Cause.TheVariants.{Message as Came, Restart}
use Rattle.run_rules.specs.declared.step.Labelled.{Labelled}
use Rattle.run_rules.specs.declared.step.Step.{Step}

module _ (script : Script) (host : HostId) where
  -- its Bye was said, no call is open and all lines have gone
  abbrev pub HasEnded : List Step → Type 0
  HasEnded A = NoneOpen A × (lines_gone A ≡ length (lines_of script (Host host)))

  module _ (A : List Step) (s : Step) (run : HostRun script host (s ∷ A))
      (new_unknown : (g : Give) → In g s.made → IsKnown (s ∷ A) g → ⊥)
      (bye_held : (t : Token) (v : ServerId) → HasSaid A v Bye → Owns A t → ⊥) where
    abbrev m : HostMay script host A s
    m = run.1

    no_line : lines_gone A ≡ length (lines_of script (Host host)) → (n : ℕ) → s.cause ≡ LineOf n → ⊥
    no_line gone n e =
        let next = m.lines.next n e in
        let lt = slice_get_within (lines_of script (Host host)) (lines_gone A) next.0 next.1.0 in
        absurd (omega (arith, lt, gone))

    same_gone : lines_gone A ≡ length (lines_of script (Host host))
        → lines_gone (s ∷ A) ≡ length (lines_of script (Host host))
    same_gone gone = go s.cause refl
      where
        still : (c : Cause) → s.cause ≡ c → goes_with c ≡ 0
            → lines_gone (s ∷ A) ≡ length (lines_of script (Host host))
        still c e z =
            let more : lines_gone (s ∷ A) ≡ goes_with c + lines_gone A =
            ap (λ (x : Cause). goes_with x + lines_gone A) e in
            omega (arith, more, z, gone)

        go : (c : Cause) → s.cause ≡ c → lines_gone (s ∷ A) ≡ length (lines_of script (Host host))
        go (LineOf n) e = absurd (no_line gone n e)
        go (Restart n) e = absurd (m.lines.no_server.0 n e)
        go (Came x) e = still (Came x) e refl
        go Lapse e = still Lapse e refl
        go Evict e = still Evict e refl
        go (Freight freight) e = still (Freight freight) e refl
        go End e = still End e refl
        go Flushed e = absurd (m.lines.no_server.1 e)

    ended : ((u : Labelled) → LabelInUse A u → ⊥) → HasEnded A → HasEnded (s ∷ A)
    ended unused old = (
      λ call o. elim o [
        | inl asked ↦ elim (m.lines.begins call.k call.call (inl asked)) [
          | inl line ↦ no_line old.1 line.0 line.1
          | inr end ↦ (
              let k = (m.ends.implied call.k call.call end (inl asked)).1 in unused k.0 k.1
              )
        ]
        | inr x ↦ old.0 call x.0
      ],
      same_gone old.1,
    )

    -- once it was said
    said_before : (v : ServerId) → HasSaid A v Bye → HasEnded A → HasEnded (s ∷ A)
    said_before v said old = ended (λ u i. bye_held u.token v said (use_owned script host A run.0 u i)) old

    -- in the step that says it
    unused_now : (v : ServerId) (e n : ℕ) → Sends s v e n Bye → (u : Labelled) → LabelInUse A u → ⊥
    unused_now v e n sends u i =
        m.tokens.bye_held v e n u.token sends (
          inr (use_owned script host A run.0 u i),
          λ l. elim l [
            | inl g ↦ new_unknown g.0 g.1 (m.tokens.bye_gives v e n g.0 sends (inl g.1))
            | inr r ↦ m.revoked.returns_idle u.token.id r (u, i, refl)
          ],
        )

    pub bye_step : (v : ServerId) → (HasSaid A v Bye → HasEnded A) → HasSaid (s ∷ A) v Bye → HasEnded (s ∷ A)
    bye_step v old (e, n, inr said) = said_before v (e, n, said) (old (e, n, said))
    bye_step v old (e, n, inl sends) = elim (m.ends.bye v (e, n, sends)).2 [
      | inr said ↦ said_before v said (old said)
      | inl end ↦ (
          let after = m.ends.after end in
          ended (unused_now v e n sends) (after.1, after.0)
          )
    ]

  -- what it asks it asks of a server that has welcomed it
  welcome_on : (A : List Step) (s : Step) (v : ServerId) → IsWelcome A v → IsWelcome (s ∷ A) v
  welcome_on A s v w = inr w

  fetch_welcome : (A : List Step) → HostRun script host A → (v : ServerId) (e n : ℕ) (f : FetchOf)
      → Said A v e n (Fetch f) → IsWelcome A v
  fetch_welcome [] run v e n f said = elim said [ ]
  fetch_welcome (s ∷ A) run v e n f (inl sends) = run.1.asks.fetches_welcome v e n f sends
  fetch_welcome (s ∷ A) run v e n f (inr said) = inr (fetch_welcome A run.0 v e n f said)

  change_welcome : (A : List Step) → HostRun script host A → (v : ServerId) (e n : ℕ) (c : ChangeOf)
      → Said A v e n (Change c) → IsWelcome A v
  change_welcome [] run v e n c said = elim said [ ]
  change_welcome (s ∷ A) run v e n c (inl sends) = run.1.asks.changes_welcome v e n c sends
  change_welcome (s ∷ A) run v e n c (inr said) = inr (change_welcome A run.0 v e n c said)

  abbrev pub SomeWelcome : List Step → Type 0
  SomeWelcome A = (v : ServerId) × IsWelcome A v

  pub asking_welcome : (A : List Step) → HostRun script host A → (fs : FilesetId) (n : ℕ) → Asking A fs n
      → SomeWelcome A
  asking_welcome [] run fs n x = elim x [ ]
  asking_welcome (s ∷ A) run fs n x = elim x.0 [
    | inl k ↦ (
        let f = k.1 in
        (f.0, run.1.asks.fetches_welcome f.0 f.1 f.2 k.0 f.3)
        )
    | inr old ↦ (let w = asking_welcome A run.0 fs n old in (w.0, inr w.1))
  ]

  pub changing_welcome : (A : List Step) → HostRun script host A → (v : ServerId) (fs : FilesetId) (n : ℕ)
      → Changing A v fs n → SomeWelcome A
  changing_welcome [] run v fs n x = elim x [ ]
  changing_welcome (s ∷ A) run v fs n x = elim x.0 [
    | inl k ↦ (
        let f = k.1 in
        (f.0, run.1.asks.changes_welcome f.0 f.1 f.2 k.0 f.3)
        )
    | inr old ↦ (let w = changing_welcome A run.0 v fs n old in (w.0, inr w.1))
  ]
