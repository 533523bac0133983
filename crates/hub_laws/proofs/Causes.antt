-- Causes of steps were sent before, and what is given is sound.
use Rattle.std.proofs.Common.{◌≡◌, ◌⊎◌, ⊎_elim, inl, inr, ℕ, Bool, true, false, cond, List, [], ◌∷◌, refl, sym, ap}
use Rattle.std.proofs.Common.{◌∙◌, subst, eq-eqb, eqb-true}
use Rattle.base_types.specs.declared.ids.HostId.{HostId}
use Rattle.base_types.specs.declared.ids.Node.{Node}
use Rattle.base_types.specs.declared.ids.Node.TheVariants.{Host, Server}
use Rattle.base_types.specs.declared.ids.ServerId.{ServerId}
use Rattle.tree_answers.specs.declared.tree.Tree.{Tree}
use Rattle.message_types.specs.Soundness.{IsSound}
use Rattle.message_types.specs.declared.message.Direction.TheVariants.{ToServer, ToHost}
use Rattle.message_types.specs.declared.message.Message.{Message}
use Rattle.script_lines.specs.Sound.{same_node}
use Rattle.script_lines.specs.declared.script.Script.{Script}
use Rattle.hub_board.specs.Hubs.{Hubbed, with_turn}
use Rattle.hub_board.specs.Turning.{steps_of}
use Rattle.hub_board.specs.declared.given.Turn.{Turn}
use Rattle.run_rules.specs.Doings.{Doing, SentTo, admitting, after_admitting, after_cause, after_deciding, after_step}
use Rattle.run_rules.specs.Doings.{deciding, doings_of, sending}
use Rattle.run_rules.specs.Doings.Doing.{Sent}
use Rattle.run_rules.specs.Messages.{Said}
use Rattle.run_rules.specs.Past.{EachInTurn, In, Once, appended}
use Rattle.run_rules.specs.Plans.{receiver_by, sent_in}
use Rattle.run_rules.specs.Runs.{IsFrom}
use Rattle.run_rules.specs.Steps.{is_node, steps_of_host}
use Rattle.run_rules.specs.declared.step.Cause.{Cause}
use Rattle.run_rules.specs.declared.step.Cause.TheVariants.{End, Evict, Freight, Lapse}
use Rattle.run_rules.specs.declared.step.Cause.TheVariants.{Line, Message as CameBy, Restart}
use Rattle.run_rules.specs.declared.step.Cause.TheVariants.{Flushed}
use Rattle.run_rules.specs.declared.step.Step.{Step}
use Rattle.hub_laws.proofs.Boards.{GivesSent}
use Rattle.hub_laws.specs.Keeping.{Keeps, Round, round_of, rounds_of}
use Rattle.hub_laws.specs.Laws.{CauseSent, GivesSound}
use Rattle.hub_laws.proofs.Members.{in_append, in_back, in_front, map_in}
use Rattle.hub_laws.proofs.Planned.{StepFits, each_now, each_on, known, once_after}
use Rattle.run_tokens.proofs.Ships.{once_shipped}
use Rattle.run_rules.specs.Doings.{after_sending}
use Rattle.hub_laws.proofs.Rounds.{is_to}

module _ (script : Script) where
  -- what a step sends is its node's own, and sound
  abbrev pub OwnSent : Step → Type 0
  OwnSent s = (m : Message) → In m s.sent → IsFrom s.node m × IsSound script.roster m

  abbrev pub AllOwn : List Step → Type 0
  AllOwn [] = Unit {0}
  AllOwn (s ∷ past) = OwnSent s × AllOwn past

  own_more : (xs past : List Step) → ((s : Step) → In s xs → OwnSent s) → AllOwn past → AllOwn (appended xs past)
  own_more [] past h a = a
  own_more (s ∷ xs) past h a = own_more xs (s ∷ past) (λ x i. h x (inr i)) (h s (inl refl), a)

  -- a fact of each step, where all earlier ones sent their own
  each_with : (P Q : List Step → Step → Type 0) (xs past : List Step)
      → ((past : List Step) (s : Step) → AllOwn past → P past s → Q past s) → AllOwn past
      → ((s : Step) → In s xs → OwnSent s) → EachInTurn P xs past → EachInTurn Q xs past
  each_with P Q [] past f a h e = tt
  each_with P Q (s ∷ xs) past f a h e =
      (f past s a e.0, each_with P Q xs (s ∷ past) f (h s (inl refl), a) (λ x i. h x (inr i)) e.1)

  -- all steps of a run send their own
  pub all_own : (turns : List Turn) (hub : Hubbed) (own : Node → List Round)
      → ((n : Node) → EachInTurn (Keeps script n) (rounds_of hub n turns) (own n)) → (s : Step) → In s
      (steps_of turns) → OwnSent s
  all_own [] hub own keeps s i = absurd i
  all_own (t ∷ turns) hub own keeps s i =
      let round = round_of hub t in
      let rest = rounds_of (with_turn hub t) t.node turns in
      let k = each_now (Keeps script t.node) t.node round rest (own t.node) (keeps t.node) in ⊎_elim
      (λ (a : In s t.steps). λ m j.
      subst (λ n. IsFrom n m × IsSound script.roster m) (sym (k.own s a)) (k.sends s a m j))
      (λ (b : In s (steps_of turns)).
      all_own turns (with_turn hub t) (known t.node round own)
      (λ n. each_on (Keeps script n) (same_node t.node n) round (rounds_of (with_turn hub t) n turns) (own n)
      (keeps n)) s b)
      (in_append s t.steps (steps_of turns) i)

  -- a step that sent a message
  abbrev Sender : Message → List Step → Type 0
  Sender m past = Once (λ before s. In m s.sent × (IsFrom s.node m × IsSound script.roster m)) past

  sender_of : (m : Message) (past : List Step) → AllOwn past → In m (sent_in past) → Sender m past
  sender_of m [] a i = absurd i
  sender_of m (s ∷ past) a i = ⊎_elim
      (λ (k : In m (sent_in past)). inr (sender_of m past a.1 k))
      (λ (k : In m s.sent). inl (k, a.0 m k))
      (in_append m (sent_in past) s.sent i)

  sound_of : (m : Message) (past : List Step) → Sender m past → IsSound script.roster m
  sound_of m [] o = absurd o
  sound_of m (s ∷ past) o = ⊎_elim
      (λ (u : In m s.sent × (IsFrom s.node m × IsSound script.roster m)). u.1.1)
      (λ (k : Sender m past). sound_of m past k) o

  -- between servers nobody sends
  from_way : (n : Node) (m : Message) → IsFrom n m → (m.direction ≡ ToServer) ⊎ (m.direction ≡ ToHost)
  from_way (Host host) m f = inl f.1
  from_way (Server server) m f = inr f.1

  way_of : (m : Message) (past : List Step) → Sender m past → (m.direction ≡ ToServer) ⊎ (m.direction ≡ ToHost)
  way_of m [] o = absurd o
  way_of m (s ∷ past) o = ⊎_elim
      (λ (u : In m s.sent × (IsFrom s.node m × IsSound script.roster m)). from_way s.node m u.1.0)
      (λ (k : Sender m past). way_of m past k) o

  from_host : (n : Node) (m : Message) → IsFrom n m → m.direction ≡ ToServer → is_node n (Host m.host) ≡ true
  from_host (Host host) m f e = eq-eqb host.0 m.host.0 (ap (λ (h : HostId). h.0) (sym f.0))
  from_host (Server server) m f e = let clash : ToServer ≡ ToHost = sym e ∙ f.1 in absurd (cc)

  from_server : (n : Node) (m : Message) → IsFrom n m → m.direction ≡ ToHost → is_node n (Server m.server) ≡ true
  from_server (Host host) m f e = let clash : ToHost ≡ ToServer = sym e ∙ f.1 in absurd (cc)
  from_server (Server server) m f e = eq-eqb server.0 m.server.0 (ap (λ (v : ServerId). v.0) (sym f.0))

  -- its host said it
  said : (m : Message) (past : List Step) → Sender m past → m.direction ≡ ToServer
      → Said (steps_of_host m.host past) m.server m.epoch m.moves m.body
  said m [] o e = absurd o
  said m (s ∷ past) o e = ⊎_elim
      (λ (u : In m s.sent × (IsFrom s.node m × IsSound script.roster m)).
      subst (λ b. Said (cond b (s ∷ steps_of_host m.host past) (steps_of_host m.host past)) m.server m.epoch m.moves
      m.body)
      (sym (from_host s.node m u.1.0 e)) (inl (m, u.0, refl, refl, refl, refl)))
      (λ (k : Sender m past). later (is_node s.node (Host m.host)) (said m past k e)) o
    where
      later : (b : Bool) → Said (steps_of_host m.host past) m.server m.epoch m.moves m.body
          → Said (cond b (s ∷ steps_of_host m.host past) (steps_of_host m.host past)) m.server m.epoch m.moves m.body
      later true h = inr h
      later false h = h

  once_in_after : (a : Doing) (xs past : List Doing) → In a xs → Once (λ before b. b ≡ a) (appended xs past)
  once_in_after a [] past i = absurd i
  once_in_after a (b ∷ xs) past i = ⊎_elim
      (λ (e : a ≡ b). once_after (λ before c. c ≡ a) xs (b ∷ past) (inl (sym e)))
      (λ (k : In a xs). once_in_after a xs (b ∷ past) k) i

  once_cause : (P : List Doing → Doing → Type 0) (c : Cause) (past : List Doing) → Once P past → Once P
      (after_cause c past)
  once_cause P (CameBy m) past h = inr h
  once_cause P (Restart line) past h = inr h
  once_cause P Flushed past h = inr h
  once_cause P (Line line) past h = h
  once_cause P Lapse past h = h
  once_cause P Evict past h = h
  once_cause P (Freight freight) past h = inr h
  once_cause P End past h = h

  once_step : (P : List Doing → Doing → Type 0) (s : Step) (past : List Doing) → Once P past → Once P
      (after_step s past)
  once_step P s past h =
      inr (once_shipped P s.shipped (after_sending s past) (once_after P (sending s.sent) (after_admitting s past)
      (once_after P (admitting s.admitted) (after_deciding s past)
      (once_after P (deciding s.applied) (after_cause s.cause past) (once_cause P s.cause past h)))))

  -- its server sent it
  sent_to : (firsts : ServerId → ℕ) (m : Message) (past : List Step) → Sender m past → m.direction ≡ ToHost
      → SentTo (doings_of (firsts m.server) m.server past) m.host m.epoch m.moves m.body
  sent_to firsts m [] o e = absurd o
  sent_to firsts m (s ∷ past) o e = ⊎_elim
      (λ (u : In m s.sent × (IsFrom s.node m × IsSound script.roster m)).
      subst (λ b. SentTo (cond b (after_step s before) before) m.host m.epoch m.moves m.body)
      (sym (from_server s.node m u.1.0 e))
      (inr (once_shipped (λ earlier a. a ≡ Sent m.host m.epoch m.moves m.body) s.shipped (after_sending s before)
      (once_in_after (Sent m.host m.epoch m.moves m.body) (sending s.sent) (after_admitting s before)
      (map_in (λ (x : Message). Sent x.host x.epoch x.moves x.body) m s.sent u.0)))))
      (λ (k : Sender m past). later (is_node s.node (Server m.server)) (sent_to firsts m past k e)) o
    where
      before : List Doing
      before = doings_of (firsts m.server) m.server past

      later : (b : Bool) → SentTo (doings_of (firsts m.server) m.server past) m.host m.epoch m.moves m.body
          → SentTo (cond b (after_step s (doings_of (firsts m.server) m.server past))
          (doings_of (firsts m.server) m.server past)) m.host m.epoch m.moves m.body
      later true h = once_step (λ bef a. a ≡ Sent m.host m.epoch m.moves m.body) s
          (doings_of (firsts m.server) m.server past) h
      later false h = h

  -- by whom a message is taken
  cause_sent : (firsts : ServerId → ℕ) (n : Node) (past : List Step) (s : Step) → AllOwn past
      → ((m : Message) → s.cause ≡ CameBy m → (is_to n m ≡ true) × In m (sent_in past)) → CauseSent firsts n past s
  cause_sent firsts (Host host) past s a f = λ m e.
      let k = f m e in
      let o = sender_of m past a k.1 in ⊎_elim
      (λ (d : m.direction ≡ ToServer).
      let clash : false ≡ true = ap (λ x. same_node (receiver_by x m) (Host host)) (sym d) ∙ k.0 in absurd (cc))
      (λ (d : m.direction ≡ ToHost).
      let same : m.host ≡ host =
      ap (λ n. let h : HostId = record { 0 = n } in h) (eqb-true m.host.0 host.0
      (ap (λ x. same_node (receiver_by x m) (Host host)) (sym d) ∙ k.0)) in (
        same,
        d,
        subst (λ h. SentTo (doings_of (firsts m.server) m.server past) h m.epoch m.moves m.body) same
            (sent_to firsts m past o d),
      ))
      (way_of m past o)
  cause_sent firsts (Server server) past s a f = λ m e.
      let k = f m e in
      let o = sender_of m past a k.1 in ⊎_elim
      (λ (d : m.direction ≡ ToServer).
      let same : m.server ≡ server =
      ap (λ n. let v : ServerId = record { 0 = n } in v) (eqb-true m.server.0 server.0
      (ap (λ x. same_node (receiver_by x m) (Server server)) (sym d) ∙ k.0)) in
      (same, d, subst (λ v. Said (steps_of_host m.host past) v m.epoch m.moves m.body) same (said m past o d)))
      (λ (d : m.direction ≡ ToHost).
      let clash : false ≡ true = ap (λ x. same_node (receiver_by x m) (Server server)) (sym d) ∙ k.0 in absurd (cc))
      (way_of m past o)

  pub causes_sent : (firsts : ServerId → ℕ) (start : List Tree) (xs past : List Step) → AllOwn past
      → ((s : Step) → In s xs → OwnSent s) → EachInTurn (StepFits script start) xs past
      → EachInTurn (λ before s. CauseSent firsts s.node before s) xs past
  causes_sent firsts start xs past a h e =
      each_with (StepFits script start) (λ before s. CauseSent firsts s.node before s) xs past
      (λ before s own fits. cause_sent firsts s.node before s own fits.cause) a h e

  -- what is given is sound
  pub gives_sound : (turns : List Turn) (hub : Hubbed) (past : List Step) → AllOwn past
      → ((s : Step) → In s (steps_of turns) → OwnSent s) → GivesSent hub turns past → GivesSound script hub turns
  gives_sound [] hub past a h g = tt
  gives_sound (t ∷ turns) hub past a h g =
      let later = own_more t.steps past (λ s i. h s (in_front s t.steps (steps_of turns) i)) a in (
        (λ m e. sound_of m (appended t.steps past) (sender_of m (appended t.steps past) later (g.0 m e))),
        gives_sound turns (with_turn hub t) (appended t.steps past) later
            (λ s i. h s (in_back s t.steps (steps_of turns) i)) g.1,
      )
