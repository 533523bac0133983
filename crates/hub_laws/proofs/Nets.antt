-- The network of a run beside the one where nothing is taken.
use Rattle.std.proofs.Common.{◌≡◌, ℕ, ◌+◌, List, [], ◌∷◌, ◌++◌, map, refl, sym, ap, ◌∙◌, subst, append_assoc}
use Rattle.std.proofs.lemmas.List.{append-nil, map-append}
use Rattle.base_types.specs.declared.ids.Node.{Node}
use Rattle.message_types.specs.declared.message.Message.{Message}
use Rattle.run_rules.specs.Plans.{ways_in}
use Rattle.run_rules.specs.declared.fate.Way.{Way}
use Rattle.run_rules.specs.declared.fate.Way.TheVariants.{Free, Delayed, Held}
use Rattle.hub_wire.specs.Laws.{with_steps}
use Rattle.hub_board.specs.Hubs.{flagged}
use Rattle.hub_wire.specs.Networks.{Network, due_by, next_fate, with_flag, with_message, with_messages, with_step}
use Rattle.hub_wire.specs.Packets.{raised_packet}
use Rattle.hub_wire.specs.declared.packet.Packet.{Packet}
use Rattle.hub_wire.proofs.Flags.{flags_commute}
use Rattle.hub_laws.specs.Taking.{Embeds}
use Rattle.hub_laws.proofs.Embeds.{mapped, more, moved}

-- a network with other copies on their way, and other lapses due
abbrev pub beside : Network → List Packet → List Node → Network
beside all packets due = record all { packets = packets; due = due }

-- The network where nothing is taken: what is on its way in another, and what was taken there, is taken out of it
pub record Goes (all net : Network) (taken : List Packet) (lapsed : List Node) : Type 0 where
  pub rest : net ≡ beside all net.packets net.due
  pub packets : Embeds (taken ++ net.packets) all.packets
  pub due : Embeds (lapsed ++ net.due) all.due

abbrev new_packets : Network → Message → List Packet
new_packets net m = map (λ way. record { message = m; way = way; step = net.steps }) (ways_in (next_fate net m))

-- what messages add is the same in both
record Added (all : Network) (ps : List Packet) (ds : List Node) (ms : List Message) : Type 0 where
  packets : List Packet
  due : List Node
  both : with_messages (beside all ps ds) ms ≡ beside (with_messages all ms) (ps ++ packets) (ds ++ due)
  all_packets : (with_messages all ms).packets ≡ all.packets ++ packets
  all_due : (with_messages all ms).due ≡ all.due ++ due

added : (ms : List Message) (all : Network) (ps : List Packet) (ds : List Node) → Added all ps ds ms
added [] all ps ds = record {
  packets = [];
  due = [];
  both = λ i. beside all (sym (append-nil ps) i) (sym (append-nil ds) i);
  all_packets = sym (append-nil all.packets);
  all_due = sym (append-nil all.due);
}
added (m ∷ ms) all ps ds =
    let np = new_packets all m in
    let nd = due_by (next_fate all m) m in
    let i = added ms (with_message all m) (ps ++ np) (ds ++ nd) in
    record {
      packets = np ++ i.packets;
      due = nd ++ i.due;
      both = i.both ∙ (λ j. beside (with_messages all (m ∷ ms)) (append_assoc ps np i.packets j)
          (append_assoc ds nd i.due j));
      all_packets = i.all_packets ∙ append_assoc all.packets np i.packets;
      all_due = i.all_due ∙ append_assoc all.due nd i.due;
    }

both_more : {A : Type 0} (xs ps qs ns : List A) → Embeds (xs ++ ps) qs → Embeds (xs ++ (ps ++ ns)) (qs ++ ns)
both_more xs ps qs ns e = subst (λ l. Embeds l (qs ++ ns)) (append_assoc xs ps ns) (more (xs ++ ps) qs ns e)

-- a step goes on both
pub sends : (all net : Network) (taken : List Packet) (lapsed : List Node) (sent : List Message)
    → Goes all net taken lapsed → Goes (with_step all sent) (with_step net sent) taken lapsed
sends all net taken lapsed sent g =
    let start : Network = record all { steps = all.steps + 1 } in
    let a = added sent start net.packets net.due in
    let same : with_step net sent ≡ beside (with_step all sent) (net.packets ++ a.packets) (net.due ++ a.due) =
    ap (λ (n : Network). with_step n sent) g.rest ∙ a.both in
    let ps : (with_step net sent).packets ≡ net.packets ++ a.packets = ap (λ (n : Network). n.packets) same in
    let ds : (with_step net sent).due ≡ net.due ++ a.due = ap (λ (n : Network). n.due) same in
    record {
      rest = same ∙ (λ i. beside (with_step all sent) (sym ps i) (sym ds i));
      packets = subst (λ l. Embeds (taken ++ l) (with_step all sent).packets) (sym ps)
          (subst (Embeds (taken ++ (net.packets ++ a.packets))) (sym a.all_packets)
          (both_more taken net.packets all.packets a.packets g.packets));
      due = subst (λ l. Embeds (lapsed ++ l) (with_step all sent).due) (sym ds)
          (subst (Embeds (lapsed ++ (net.due ++ a.due))) (sym a.all_due)
          (both_more lapsed net.due all.due a.due g.due));
    }

-- a copy that could be taken
abbrev pub IsOut : Way → Type 0
IsOut (Held flag) = ⊥
IsOut _ = Unit {0}

abbrev pub AreOut : List Packet → Type 0
AreOut [] = Unit {0}
AreOut (p ∷ ps) = IsOut p.way × AreOut ps

-- no flag changes it
stays_out : (flag : List ℕ) (m : Message) (step : ℕ) (way : Way) → IsOut way
    → (let p : Packet = record { message = m; way = way; step = step } in raised_packet flag p ≡ p)
stays_out flag m step Free h = refl
stays_out flag m step Delayed h = refl
stays_out flag m step (Held name) h = absurd h

stay_out : (flag : List ℕ) (ps : List Packet) → AreOut ps → map (raised_packet flag) ps ≡ ps
stay_out flag [] h = refl
stay_out flag (p ∷ ps) h =
    λ i. stays_out flag p.message p.step p.way h.0 i ∷ stay_out flag ps h.1 i

-- a flag is raised in both
raises_one : (flag : List ℕ) (all net : Network) (taken : List Packet) (lapsed : List Node) → AreOut taken
    → Goes all net taken lapsed → Goes (with_flag flag all) (with_flag flag net) taken lapsed
raises_one flag all net taken lapsed out g = record {
  rest = ap (with_flag flag) g.rest;
  packets = subst (λ l. Embeds (l ++ map (raised_packet flag) net.packets) (map (raised_packet flag) all.packets))
      (stay_out flag taken out)
      (subst (λ l. Embeds l (map (raised_packet flag) all.packets))
      (map-append (raised_packet flag) taken net.packets)
      (mapped (raised_packet flag) (taken ++ net.packets) all.packets g.packets));
  due = g.due;
}

pub raises : (flags : List (List ℕ)) (all net : Network) (taken : List Packet) (lapsed : List Node) → AreOut taken
    → Goes all net taken lapsed → Goes (flagged flags all) (flagged flags net) taken lapsed
raises [] all net taken lapsed out g = g
raises (flag ∷ flags) all net taken lapsed out g =
    raises flags (with_flag flag all) (with_flag flag net) taken lapsed out
    (raises_one flag all net taken lapsed out g)

-- a step goes before flags as well as after them
pub flagged_step : (flags : List (List ℕ)) (net : Network) (sent : List Message)
    → flagged flags (with_step net sent) ≡ with_step (flagged flags net) sent
flagged_step [] net sent = refl
flagged_step (flag ∷ flags) net sent =
    ap (flagged flags) (sym (flags_commute flag net sent)) ∙ flagged_step flags (with_flag flag net) sent

pub flagged_more : (flags more : List (List ℕ)) (net : Network)
    → flagged (flags ++ more) net ≡ flagged more (flagged flags net)
flagged_more [] more net = refl
flagged_more (flag ∷ flags) more net = flagged_more flags more (with_flag flag net)

pub steps_more : (net : Network) (steps : List (List Message)) (sent : List Message)
    → with_steps net (steps ++ sent ∷ []) ≡ with_step (with_steps net steps) sent
steps_more net [] sent = refl
steps_more net (x ∷ steps) sent = steps_more (with_step net x) steps sent

-- a copy that is taken
pub takes : (all net now : Network) (taken earlier later : List Packet) (p : Packet) (lapsed : List Node)
    → Goes all net taken lapsed → net.packets ≡ earlier ++ p ∷ later → now ≡ record net { packets = earlier ++ later }
    → Goes all now (p ∷ taken) lapsed
takes all net now taken earlier later p lapsed g among left =
    let ps : now.packets ≡ earlier ++ later = ap (λ (n : Network). n.packets) left in
    let ds : now.due ≡ net.due = ap (λ (n : Network). n.due) left in
    let first : Embeds ((taken ++ earlier) ++ p ∷ later) all.packets =
    subst (λ l. Embeds l all.packets) (sym (append_assoc taken earlier (p ∷ later)))
    (subst (λ l. Embeds (taken ++ l) all.packets) among g.packets) in
    let out : Embeds (p ∷ taken ++ (earlier ++ later)) all.packets =
    subst (λ l. Embeds (p ∷ l) all.packets) (append_assoc taken earlier later)
    (moved (taken ++ earlier) p later all.packets first) in
    record {
      rest = left ∙ ap (λ (n : Network). record n { packets = earlier ++ later }) g.rest
          ∙ (λ i. beside all (sym ps i) (sym ds i));
      packets = subst (λ l. Embeds (p ∷ taken ++ l) all.packets) (sym ps) out;
      due = subst (λ l. Embeds (lapsed ++ l) all.due) (sym ds) g.due;
    }

-- a lapse that is taken
pub lapses : (all net now : Network) (taken : List Packet) (earlier later lapsed : List Node) (x : Node)
    → Goes all net taken lapsed → net.due ≡ earlier ++ x ∷ later → now ≡ record net { due = earlier ++ later }
    → Goes all now taken (x ∷ lapsed)
lapses all net now taken earlier later lapsed x g among left =
    let ps : now.packets ≡ net.packets = ap (λ (n : Network). n.packets) left in
    let ds : now.due ≡ earlier ++ later = ap (λ (n : Network). n.due) left in
    let first : Embeds ((lapsed ++ earlier) ++ x ∷ later) all.due =
    subst (λ l. Embeds l all.due) (sym (append_assoc lapsed earlier (x ∷ later)))
    (subst (λ l. Embeds (lapsed ++ l) all.due) among g.due) in
    let out : Embeds (x ∷ lapsed ++ (earlier ++ later)) all.due =
    subst (λ l. Embeds (x ∷ l) all.due) (append_assoc lapsed earlier later)
    (moved (lapsed ++ earlier) x later all.due first) in
    record {
      rest = left ∙ ap (λ (n : Network). record n { due = earlier ++ later }) g.rest
          ∙ (λ i. beside all (sym ps i) (sym ds i));
      packets = subst (λ l. Embeds (taken ++ l) all.packets) (sym ps) g.packets;
      due = subst (λ l. Embeds (x ∷ lapsed ++ l) all.due) (sym ds) out;
    }
