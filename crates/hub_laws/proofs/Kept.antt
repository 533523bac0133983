-- The small run keeps to what its nodes are given.
use Rattle.std.proofs.Common.{◌≡◌, ⊎_elim, inl, inr, ℕ, ◌≤◌, Bool, true, false, cond, List, [], ◌∷◌, None, refl, sym}
use Rattle.std.proofs.Common.{ap, ◌∙◌, subst, arith, Option}
use Rattle.base_types.specs.declared.ids.Node.{Node}
use Rattle.base_types.specs.declared.ids.Node.TheVariants.{Host, Server}
use Rattle.message_types.specs.Soundness.{IsSound}
use Rattle.message_types.specs.declared.message.Body.TheVariants.{Hello, Reclaimed}
use Rattle.message_types.specs.declared.message.Message.{Message}
use Rattle.script_lines.specs.Sound.{same_node}
use Rattle.script_lines.specs.declared.script.Deed.TheVariants.{Await, Call as MakesCall}
use Rattle.script_lines.specs.declared.script.Line.{Line}
use Rattle.hub_board.specs.Hubs.{Hubbed, first_hub, with_turn}
use Rattle.hub_board.specs.declared.given.Given.{Given}
use Rattle.hub_board.specs.declared.given.Turn.{Turn}
use Rattle.run_rules.specs.Past.{EachInTurn, In}
use Rattle.run_rules.specs.Runs.{IsFrom}
use Rattle.run_rules.specs.Steps.{lines_of}
use Rattle.run_tokens.specs.JournalWorked.{roster, script}
use Rattle.run_tokens.specs.Worked.{client, greets, site_one, stat, to_host, to_server, welcome, welcomes}
use Rattle.run_rules.specs.declared.step.Cause.TheVariants.{Line as LineOf, Message as Came}
use Rattle.run_rules.specs.declared.step.Step.{Step}
use Rattle.hub_laws.specs.Example.{journal, turns}
use Rattle.hub_laws.specs.Keeping.{Keeps, LineGoes, NodeKeeps, Round, lapses_given, lapses_taken, messages_given}
use Rattle.hub_laws.specs.Keeping.{messages_taken, round_of, rounds_of, steps_in}
use Rattle.hub_laws.specs.Taking.{Embeds}
use Rattle.hub_laws.specs.Laws.{IsKept}
use Rattle.hub_laws.proofs.Nodes.{node_same}

abbrev first : Hubbed
first = first_hub script []

sound_to : (m : Message) → In m (to_server 0 Hello ∷ []) → IsFrom (Host client) m × IsSound roster m
sound_to m (inl e) =
    subst (λ (x : Message). IsFrom (Host client) x × IsSound roster x) (sym e) (
      (refl, refl),
      record {
        host = omega arith;
        server = record { first = omega arith; last = omega arith };
        way = refl;
        apart = λ p. absurd (cc);
        moves = refl;
        body = tt;
      },
    )
sound_to m (inr e) = absurd e

sound_from : (m : Message) → In m (to_host (Reclaimed welcome) ∷ []) → IsFrom (Server site_one) m × IsSound roster m
sound_from m (inl e) =
    subst (λ (x : Message). IsFrom (Server site_one) x × IsSound roster x) (sym e) (
      (refl, refl),
      record {
        host = omega arith;
        server = record { first = omega arith; last = omega arith };
        way = refl;
        apart = λ p. absurd (cc);
        moves = refl;
        body = tt;
      },
    )
sound_from m (inr e) = absurd e

-- nothing is handed in
rests : (node : Node) (past : List Round) (given : Option Given) → messages_taken (steps_in past) ≡ []
    → lapses_taken (steps_in past) ≡ 0 → Keeps script node past (record { steps = []; given = given })
rests node past given e z = record {
  own = λ s i. absurd i;
  lines = tt;
  awaits = λ s i n line flag c l d. absurd i;
  sends = λ s i m j. absurd i;
  messages = subst (λ ms. Embeds ms (messages_given past)) (sym e) tt;
  lapses = omega arith;
}

no_await : (line : Line) (flag : List ℕ) → In line (lines_of script (Host client)) → line.deed ≡ Await flag → ⊥
no_await line flag (inl e) d = let clash : MakesCall stat ≡ Await flag = sym (ap (λ (l : Line). l.deed) e) ∙ d in
    absurd (cc)
no_await line flag (inr (inl e)) d = let clash : MakesCall stat ≡ Await flag = sym (ap (λ (l : Line). l.deed) e) ∙ d
    in absurd (cc)
no_await line flag (inr (inr e)) d = absurd e

greets_keeps : (past : List Round) → steps_in past ≡ [] → Keeps script (Host client) past
    (record { steps = greets ∷ []; given = None })
greets_keeps past none = record {
  own = λ s i. ⊎_elim (λ (e : s ≡ greets). ap (λ (x : Step). x.node) e) (λ (no : ⊥). absurd no) i;
  lines = (
    subst (λ own. LineGoes (lines_of script (Host client)) own greets) (sym none) (record {
      line = λ n e. (
        record { number = 6; node = Host client; deed = MakesCall stat },
        (refl, (let same : 6 ≡ n = cc in same)),
      );
      restart = λ n e. absurd (cc);
    }),
    tt,
  );
  awaits = λ s i n line flag c l d. ⊎_elim
      (λ (e : s ≡ greets). absurd (no_await line flag l.0 d)) (λ (no : ⊥). absurd no) i;
  sends = λ s i m j. ⊎_elim
      (λ (e : s ≡ greets). sound_to m (subst (λ (x : Step). In m x.sent) e j)) (λ (no : ⊥). absurd no) i;
  messages = subst (λ own. Embeds (messages_taken (greets ∷ own)) (messages_given past)) (sym none) tt;
  lapses = subst (λ own. lapses_taken (greets ∷ own) ≤ lapses_given past) (sym none) (omega arith);
}

welcomes_keeps : (past : List Round) → steps_in past ≡ [] → messages_given past ≡ to_server 0 Hello ∷ []
    → Keeps script (Server site_one) past (record { steps = welcomes ∷ []; given = None })
welcomes_keeps past none got = record {
  own = λ s i. ⊎_elim (λ (e : s ≡ welcomes). ap (λ (x : Step). x.node) e) (λ (no : ⊥). absurd no) i;
  lines = (record { line = λ n e. absurd (cc); restart = λ n e. absurd (cc) }, tt);
  awaits = λ s i n line flag c l d. ⊎_elim
      (λ (e : s ≡ welcomes). let clash : Came (to_server 0 Hello) ≡ LineOf n = sym (ap (λ (x : Step). x.cause) e) ∙ c
      in absurd (cc))
      (λ (no : ⊥). absurd no) i;
  sends = λ s i m j. ⊎_elim
      (λ (e : s ≡ welcomes). sound_from m (subst (λ (x : Step). In m x.sent) e j)) (λ (no : ⊥). absurd no) i;
  messages = subst (λ own. Embeds (messages_taken (welcomes ∷ own)) (messages_given past)) (sym none)
      (subst (λ ms. Embeds (to_server 0 Hello ∷ []) ms) (sym got) ([], inl (refl, refl), tt));
  lapses = subst (λ own. lapses_taken (welcomes ∷ own) ≤ lapses_given past) (sym none) (omega arith);
}

client_keeps : NodeKeeps script first turns (Host client)
client_keeps = (rests (Host client) [] _ refl refl, (greets_keeps _ refl, (rests (Host client) _ _ refl refl, tt)))

server_keeps : NodeKeeps script first turns (Server site_one)
server_keeps = (rests (Server site_one) [] _ refl refl, (welcomes_keeps _ refl refl, tt))

-- no other node takes part
others_keep : (node : Node) (ts : List Turn) (hub : Hubbed) → ((t : Turn) → In t ts → same_node t.node node ≡ false)
    → EachInTurn (Keeps script node) (rounds_of hub node ts) []
others_keep node [] hub h = tt
others_keep node (t ∷ ts) hub h =
    subst (λ b. EachInTurn (Keeps script node) (cond b (round_of hub t ∷ rounds_of (with_turn hub t) node ts)
    (rounds_of (with_turn hub t) node ts)) []) (sym (h t (inl refl)))
    (others_keep node ts (with_turn hub t) (λ x i. h x (inr i)))

node_keeps : (node : Node) → NodeKeeps script first turns node
node_keeps node = by_tests (same_node (Host client) node) refl (same_node (Server site_one) node) refl
  where
    by_tests : (b : Bool) → same_node (Host client) node ≡ b → (c : Bool) → same_node (Server site_one) node ≡ c
        → NodeKeeps script first turns node
    by_tests true e c k = subst (NodeKeeps script first turns) (node_same (Host client) node e) client_keeps
    by_tests false e true k = subst (NodeKeeps script first turns) (node_same (Server site_one) node k) server_keeps
    by_tests false e false k = others_keep node turns first (λ t i. is_other t i)
      where
        is_other : (t : Turn) → In t turns → same_node t.node node ≡ false
        is_other t (inl i) = ap (λ (x : Turn). same_node x.node node) i ∙ e
        is_other t (inr (inl i)) = ap (λ (x : Turn). same_node x.node node) i ∙ e
        is_other t (inr (inr (inl i))) = ap (λ (x : Turn). same_node x.node node) i ∙ k
        is_other t (inr (inr (inr (inl i)))) = ap (λ (x : Turn). same_node x.node node) i ∙ k
        is_other t (inr (inr (inr (inr (inl i))))) = ap (λ (x : Turn). same_node x.node node) i ∙ e
        is_other t (inr (inr (inr (inr (inr i))))) = absurd i

pub a_run_is_kept : IsKept script [] turns journal
a_run_is_kept = record {
  given = (refl, (refl, (refl, (refl, (refl, tt)))));
  steps = refl;
  due = λ node. omega arith;
  nodes = node_keeps;
}
