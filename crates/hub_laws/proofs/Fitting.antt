-- Copies that were given and lapses, beside those that the script makes of the messages.
use Rattle.std.proofs.Common.{◌≡◌, ◌⊎◌, ⊎_elim, inl, inr, ℕ, suc, ◌+◌, ◌≤◌, Bool, true, false, ◌&&◌, cond, List, []}
use Rattle.std.proofs.Common.{◌∷◌, ◌++◌, map, filter, refl, sym, ap, ◌∙◌, subst, arith}
use Rattle.std.specs.List.{count_by, flat_map}
use Rattle.std.proofs.lemmas.List.Sums.{sum_by-cons, sum_by-append}
use Rattle.base_types.specs.Name.{same_name}
use Rattle.base_types.specs.declared.ids.Node.{Node}
use Rattle.base_types.specs.declared.ids.Node.TheVariants.{Server}
use Rattle.base_types.specs.declared.ids.ServerId.{ServerId}
use Rattle.message_types.specs.declared.message.Message.{Message}
use Rattle.script_lines.specs.Sound.{same_node}
use Rattle.script_lines.specs.declared.script.Script.{Script}
use Rattle.run_rules.specs.Past.{In}
use Rattle.run_rules.specs.Plans.{Copy, CountIs, MayCome, Posting, all_left, copies_of, posted, resender}
use Rattle.run_rules.specs.Runs.{IsRaised}
use Rattle.run_rules.specs.declared.step.Cause.{Cause}
use Rattle.run_rules.specs.declared.step.Cause.TheVariants.{Freight, Lapse as LapsesBy, Line}
use Rattle.run_rules.specs.declared.step.Cause.TheVariants.{Message as CameBy, Restart}
use Rattle.run_rules.specs.declared.step.Cause.TheVariants.{Evict, End, Flushed}
use Rattle.run_rules.specs.declared.step.Step.{Step}
use Rattle.run_rules.specs.declared.fate.Fate.{Fate}
use Rattle.run_rules.specs.declared.fate.Fate.TheVariants.{Lost, Once, Twice}
use Rattle.run_rules.specs.declared.fate.Way.{Way}
use Rattle.run_rules.specs.declared.fate.Way.TheVariants.{Free, Delayed, Held}
use Rattle.hub_wire.specs.Laws.{all_sent, copy_of, lost_due, with_steps}
use Rattle.hub_wire.specs.Networks.{Network, fresh, with_flag}
use Rattle.hub_wire.specs.Packets.{is_held_by, raised_packet}
use Rattle.hub_wire.specs.declared.packet.Packet.{Packet}
use Rattle.hub_wire.proofs.Maps.{map_twice}
use Rattle.hub_wire.proofs.Posts.{always_posted}
use Rattle.hub_board.specs.Hubs.{flagged}
use Rattle.hub_laws.specs.Keeping.{is_lapse, lapses_taken, message_of, messages_taken}
use Rattle.hub_laws.specs.Taking.{Holds, Embeds}
use Rattle.hub_laws.proofs.Counts.{Same, count_back, count_filter, count_map, count_once, count_part}
use Rattle.hub_laws.proofs.Embeds.{front, pulled}
use Rattle.hub_laws.proofs.Gifts.{lapses_to, messages}
use Rattle.hub_laws.proofs.Members.{copies_in, embeds_in, in_map, map_in}
use Rattle.hub_laws.proofs.Names.{name_same}
use Rattle.hub_laws.proofs.Nets.{AreOut, Goes, IsOut}
use Rattle.hub_laws.proofs.Nodes.{node_same, node_self}
use Rattle.hub_laws.proofs.Rounds.{is_to, lapses_of}

-- a copy after flags were raised
abbrev pub raised_by : List (List ℕ) → Packet → Packet
raised_by [] p = p
raised_by (flag ∷ flags) p = raised_by flags (raised_packet flag p)

same_all : (xs : List Packet) → xs ≡ map (λ p. p) xs
same_all [] = refl
same_all (x ∷ xs) = ap (λ l. x ∷ l) (same_all xs)

pub flagged_packets : (flags : List (List ℕ)) (net : Network)
    → (flagged flags net).packets ≡ map (raised_by flags) net.packets
flagged_packets [] net = same_all net.packets
flagged_packets (flag ∷ flags) net =
    flagged_packets flags (with_flag flag net) ∙ map_twice (raised_packet flag) (raised_by flags) net.packets

pub flagged_due : (flags : List (List ℕ)) (net : Network) → (flagged flags net).due ≡ net.due
flagged_due [] net = refl
flagged_due (flag ∷ flags) net = flagged_due flags (with_flag flag net)

message_raised : (flag : List ℕ) (p : Packet) → (raised_packet flag p).message ≡ p.message
message_raised flag p = by_test (is_held_by flag p.way)
  where
    by_test : (b : Bool) → (let q : Packet = cond b (record p { way = Free }) p in q.message ≡ p.message)
    by_test true = refl
    by_test false = refl

message_same : (flags : List (List ℕ)) (p : Packet) → (raised_by flags p).message ≡ p.message
message_same [] p = refl
message_same (flag ∷ flags) p = message_same flags (raised_packet flag p) ∙ message_raised flag p

module _ (script : Script) (past : List Step) where
  out_may : (way : Way) → IsOut way → MayCome script past way
  out_may Free h = tt
  out_may Delayed h = tt
  out_may (Held flag) h = absurd h

  before_flag : (flag : List ℕ) → IsRaised script past flag → (m : Message) (step : ℕ) (way : Way)
      → (let p : Packet = record { message = m; way = way; step = step } in MayCome script past
      (raised_packet flag p).way)
      → MayCome script past way
  before_flag flag r m step Free h = tt
  before_flag flag r m step Delayed h = tt
  before_flag flag r m step (Held name) h = by_test (same_name name flag) refl h
    where
      by_test : (b : Bool) → same_name name flag ≡ b
          → (let p : Packet = record { message = m; way = Held name; step = step } in
          let q : Packet = cond b (record p { way = Free }) p in MayCome script past q.way) → IsRaised script past name
      by_test true e k = subst (IsRaised script past) (sym (name_same name flag e)) r
      by_test false e k = k

  may_before : (flags : List (List ℕ)) → ((flag : List ℕ) → In flag flags → IsRaised script past flag) → (p : Packet)
      → IsOut (raised_by flags p).way → MayCome script past p.way
  may_before [] r p h = out_may p.way h
  may_before (flag ∷ flags) r p h =
      before_flag flag (r flag (inl refl)) p.message p.step p.way
      (may_before flags (λ g i. r g (inr i)) (raised_packet flag p) h)

  module _ (m : Message) where
    abbrev Fits : Packet → Type 0
    Fits q = (q.message ≡ m) × MayCome script past q.way

    copies_same : (xs : List Packet) → Same Fits (λ (c : Copy). (c.message ≡ m) × MayCome script past c.way) copy_of xs
    copies_same [] = tt
    copies_same (x ∷ xs) = (((λ h. h), (λ h. h)), copies_same xs)

    given_same : (flags : List (List ℕ)) → ((flag : List ℕ) → In flag flags → IsRaised script past flag)
        → (zs : List Packet)
        → AreOut (map (raised_by flags) zs) → Same Fits (λ x. x ≡ m) (λ z. (raised_by flags z).message) zs
    given_same flags r [] out = tt
    given_same flags r (z ∷ zs) out = (
      (
        (λ h. message_same flags z ∙ h.0),
        (λ e. (sym (message_same flags z) ∙ e, may_before flags r z out.0)),
      ),
      given_same flags r zs out.1,
    )

by_cause : (m : Message) (c : Cause) (rest : List Message) (n k : ℕ)
    → ((c ≡ CameBy m) × ((n ≡ suc k) × CountIs (λ x. x ≡ m) rest k))
    ⊎ ((c ≡ CameBy m → ⊥) × CountIs (λ x. x ≡ m) rest n)
    → CountIs (λ x. x ≡ m) (message_of c ++ rest) n
by_cause m (CameBy x) rest n k h = ⊎_elim
    (λ (u : (CameBy x ≡ CameBy m) × ((n ≡ suc k) × CountIs (λ y. y ≡ m) rest k)).
    let e = u.0 in inl ((let same : x ≡ m = cc in same), (k, u.1.0, u.1.1)))
    (λ (u : (CameBy x ≡ CameBy m → ⊥) × CountIs (λ y. y ≡ m) rest n). inr ((λ e. u.0 (ap CameBy e)), u.1))
    h
by_cause m (Line line) rest n k h = ⊎_elim
    (λ (u : (Line line ≡ CameBy m) × ((n ≡ suc k) × CountIs (λ y. y ≡ m) rest k)). let e = u.0 in absurd (cc))
    (λ (u : (Line line ≡ CameBy m → ⊥) × CountIs (λ y. y ≡ m) rest n). u.1) h
by_cause m (Restart line) rest n k h = ⊎_elim
    (λ (u : (Restart line ≡ CameBy m) × ((n ≡ suc k) × CountIs (λ y. y ≡ m) rest k)). let e = u.0 in absurd (cc))
    (λ (u : (Restart line ≡ CameBy m → ⊥) × CountIs (λ y. y ≡ m) rest n). u.1) h
by_cause m LapsesBy rest n k h = ⊎_elim
    (λ (u : (LapsesBy ≡ CameBy m) × ((n ≡ suc k) × CountIs (λ y. y ≡ m) rest k)). let e = u.0 in absurd (cc))
    (λ (u : (LapsesBy ≡ CameBy m → ⊥) × CountIs (λ y. y ≡ m) rest n). u.1) h
by_cause m Evict rest n k h = ⊎_elim
    (λ (u : (Evict ≡ CameBy m) × ((n ≡ suc k) × CountIs (λ y. y ≡ m) rest k)). let e = u.0 in absurd (cc))
    (λ (u : (Evict ≡ CameBy m → ⊥) × CountIs (λ y. y ≡ m) rest n). u.1) h
by_cause m (Freight freight) rest n k h = ⊎_elim
    (λ (u : (Freight freight ≡ CameBy m) × ((n ≡ suc k) × CountIs (λ y. y ≡ m) rest k)). let e = u.0 in absurd (cc))
    (λ (u : (Freight freight ≡ CameBy m → ⊥) × CountIs (λ y. y ≡ m) rest n). u.1) h
by_cause m End rest n k h = ⊎_elim
    (λ (u : (End ≡ CameBy m) × ((n ≡ suc k) × CountIs (λ y. y ≡ m) rest k)). let e = u.0 in absurd (cc))
    (λ (u : (End ≡ CameBy m → ⊥) × CountIs (λ y. y ≡ m) rest n). u.1) h
by_cause m Flushed rest n k h = ⊎_elim
    (λ (u : (Flushed ≡ CameBy m) × ((n ≡ suc k) × CountIs (λ y. y ≡ m) rest k)). let e = u.0 in absurd (cc))
    (λ (u : (Flushed ≡ CameBy m → ⊥) × CountIs (λ y. y ≡ m) rest n). u.1) h

-- steps with a message as cause, as messages
count_causes : (m : Message) (past : List Step) (n : ℕ) → CountIs (λ (t : Step). t.cause ≡ CameBy m) past n
    → CountIs (λ x. x ≡ m) (messages_taken past) n
count_causes m [] n c = c
count_causes m (s ∷ past) n c = ⊎_elim
    (λ (u : (s.cause ≡ CameBy m) × ((k : ℕ) × (n ≡ suc k) × CountIs (λ (t : Step). t.cause ≡ CameBy m) past k)).
    by_cause m s.cause (messages_taken past) n u.1.0 (inl (u.0, (u.1.1, count_causes m past u.1.0 u.1.2))))
    (λ (u : (s.cause ≡ CameBy m → ⊥) × CountIs (λ (t : Step). t.cause ≡ CameBy m) past n).
    by_cause m s.cause (messages_taken past) n 0 (inr (u.0, count_causes m past n u.1)))
    c

module _ (script : Script) (rooms : List ServerId) (flags : List (List ℕ)) (steps : List (List Message)) where
  -- the network where nothing is taken
  abbrev pub all_net : Network
  all_net = flagged flags (with_steps (fresh script rooms) steps)

  module _ (before : List Step) (raised : (flag : List ℕ) → In flag flags → IsRaised script before flag) where
    -- no more steps with a message as cause than copies of it that may come
    pub copies_fit : (net : Network) (taken : List Packet) (lapsed : List Node) → Goes all_net net taken lapsed
        → AreOut taken → (r : Node) (given : List Message) → Embeds given (messages taken) → (past own : List Step)
        → Embeds (messages_taken own) given → filter (is_to r) (messages_taken past) ≡ messages_taken own
        → (m : Message) → is_to r m ≡ true → (n k : ℕ) → CountIs (λ (t : Step). t.cause ≡ CameBy m) past n
        → CountIs (λ (c : Copy). (c.message ≡ m) × MayCome script before c.way)
        (flat_map copies_of (posted script (all_sent steps))) k
        → n ≤ k
    copies_fit net taken lapsed g out r given some past own mine own_is m to n k c d =
        let plain = (with_steps (fresh script rooms) steps).packets in
        let f = raised_by flags in
        let p = always_posted script rooms steps in
        let Q = λ (x : Message). x ≡ m in
        let all : Embeds taken (map f plain) =
        subst (Embeds taken) (flagged_packets flags (with_steps (fresh script rooms) steps))
        (front taken net.packets all_net.packets g.packets) in
        let z = pulled f taken plain all in
        let copies = count_back (Fits script before m) (λ (x : Copy). (x.message ≡ m) × MayCome script before x.way)
        copy_of plain k
        (copies_same script before m plain)
        (subst (λ l. CountIs (λ (x : Copy). (x.message ≡ m) × MayCome script before x.way) l k) (sym p.copies) d) in
        let part = count_part (Fits script before m) z.0 plain k z.2 copies in
        let came : CountIs Q (map (λ (x : Packet). (f x).message) z.0) part.0 =
        count_map (Fits script before m) Q (λ (x : Packet). (f x).message) z.0 part.0
        (given_same script before m flags raised z.0 (subst AreOut z.1 out)) part.1 in
        let same : map (λ (x : Packet). (f x).message) z.0 ≡ messages taken =
        sym (map_twice f (λ (x : Packet). x.message) z.0) ∙ ap messages (sym z.1) in
        let gave = count_part Q given (messages taken) part.0 some (subst (λ l. CountIs Q l part.0) same came) in
        let took = count_part Q (messages_taken own) given gave.0 mine gave.1 in
        let all_took : CountIs Q (messages_taken own) n =
        subst (λ l. CountIs Q l n) own_is
        (count_filter Q (is_to r) (λ x e. ap (is_to r) e ∙ to) (messages_taken past) n (count_causes m past n c)) in
        let one = count_once Q (messages_taken own) n took.0 all_took took.1 in
        let a = part.2 in let b = gave.2 in let e = took.2 in omega arith

-- lapses

held_count : (p : Node → Bool) (x : Node) (ys rest : List Node) → Holds x ys rest
    → count_by p ys ≡ cond (p x) 1 0 + count_by p rest
held_count p x [] rest h = absurd h
held_count p x (y ∷ ys) rest h = ⊎_elim
    (λ (u : (x ≡ y) × (rest ≡ ys)).
    sum_by-cons (λ z. cond (p z) 1 0) y ys ∙ ap (λ z. cond (p z) 1 0 + count_by p ys) (sym u.0)
    ∙ ap (λ l. cond (p x) 1 0 + count_by p l) (sym u.1))
    (λ (u : (r : List Node) × (rest ≡ y ∷ r) × Holds x ys r).
    let i = held_count p x ys u.0 u.2 in
    let c = sum_by-cons (λ z. cond (p z) 1 0) y ys in
    let d = sum_by-cons (λ z. cond (p z) 1 0) y u.0 in
    let e = ap (count_by p) u.1 in omega arith)
    h

part_count : (p : Node → Bool) (xs ys : List Node) → Embeds xs ys → count_by p xs ≤ count_by p ys
part_count p [] ys e = omega arith
part_count p (x ∷ xs) ys e =
    let i = part_count p xs e.0 e.2 in
    let h = held_count p x ys e.0 e.1 in
    let c = sum_by-cons (λ z. cond (p z) 1 0) x xs in omega arith

lapse_is : (c : Cause) → is_lapse c ≡ true → c ≡ LapsesBy
lapse_is LapsesBy e = refl
lapse_is (Line line) e = absurd (cc)
lapse_is (Restart line) e = absurd (cc)
lapse_is (CameBy m) e = absurd (cc)
lapse_is Evict e = absurd (cc)
lapse_is (Freight freight) e = absurd (cc)
lapse_is End e = absurd (cc)
lapse_is Flushed e = absurd (cc)

both_true : (a b : Bool) → (a && b) ≡ true → (a ≡ true) × (b ≡ true)
both_true true true e = (refl, refl)
both_true true false e = absurd (cc)
both_true false b e = absurd (cc)

-- lapse steps of a node, one by one
count_lapses : (r : Node) (past : List Step) (n : ℕ)
    → CountIs (λ (t : Step). (t.node ≡ r) × (t.cause ≡ LapsesBy)) past n → n ≡ lapses_of r past
count_lapses r [] n c = c
count_lapses r (s ∷ past) n c =
    let more = sum_by-cons (λ (t : Step). cond (same_node t.node r && is_lapse t.cause) 1 0) s past in ⊎_elim
    (λ (u : ((s.node ≡ r) × (s.cause ≡ LapsesBy)) × ((k : ℕ) × (n ≡ suc k)
    × CountIs (λ (t : Step). (t.node ≡ r) × (t.cause ≡ LapsesBy)) past k)).
    let i = count_lapses r past u.1.0 u.1.2 in
    let yes : (same_node s.node r && is_lapse s.cause) ≡ true =
    ap (λ x. same_node x r && is_lapse s.cause) u.0.0 ∙ ap (λ b. b && is_lapse s.cause) (node_self r) ∙ ap is_lapse
    u.0.1 in
    let one : cond {A = ℕ} (same_node s.node r && is_lapse s.cause) 1 0 ≡ 1 = ap (λ b. cond b 1 0) yes in
    let e = u.1.1 in omega arith)
    (λ (u : ((s.node ≡ r) × (s.cause ≡ LapsesBy) → ⊥)
    × CountIs (λ (t : Step). (t.node ≡ r) × (t.cause ≡ LapsesBy)) past n).
    let i = count_lapses r past n u.1 in
    by_test u.0 more i (same_node s.node r && is_lapse s.cause) refl)
    c
  where
    by_test : ((s.node ≡ r) × (s.cause ≡ LapsesBy) → ⊥)
        → lapses_of r (s ∷ past) ≡ cond (same_node s.node r && is_lapse s.cause) 1 0 + lapses_of r past
        → n ≡ lapses_of r past → (b : Bool) → (same_node s.node r && is_lapse s.cause) ≡ b → n ≡ lapses_of r (s ∷ past)
    by_test none more i true e =
        let t = both_true (same_node s.node r) (is_lapse s.cause) e in
        absurd (none (node_same s.node r t.0, lapse_is s.cause t.1))
    by_test none more i false e =
        let z : cond {A = ℕ} (same_node s.node r && is_lapse s.cause) 1 0 ≡ 0 = ap (λ b. cond b 1 0) e in omega arith

-- lost messages that a node has to send again
due_of : (r : Node) (p : Posting) (fate : Fate) → p.fate ≡ fate → (rest n k : ℕ)
    → (((p.fate ≡ Lost) × (resender p.message ≡ r)) × ((n ≡ suc k) × (rest ≡ k)))
    ⊎ (((p.fate ≡ Lost) × (resender p.message ≡ r) → ⊥) × (rest ≡ n))
    → lapses_to r (lost_due (record p { fate = fate })) + rest ≡ n
due_of r p Lost e rest n k h =
    let more = sum_by-cons (λ (x : Node). cond (same_node x r) 1 0) (resender p.message) [] in ⊎_elim
    (λ (u : ((p.fate ≡ Lost) × (resender p.message ≡ r)) × ((n ≡ suc k) × (rest ≡ k))).
    let one : cond {A = ℕ} (same_node (resender p.message) r) 1 0 ≡ 1 =
    ap (λ x. cond (same_node x r) 1 0) u.0.1 ∙ ap (λ b. cond b 1 0) (node_self r) in
    let a = u.1.0 in let b = u.1.1 in omega arith)
    (λ (u : ((p.fate ≡ Lost) × (resender p.message ≡ r) → ⊥) × (rest ≡ n)).
    by_test u.0 u.1 more (same_node (resender p.message) r) refl)
    h
  where
    by_test : ((p.fate ≡ Lost) × (resender p.message ≡ r) → ⊥) → rest ≡ n
        → lapses_to r (resender p.message ∷ []) ≡ cond (same_node (resender p.message) r) 1 0 + lapses_to r []
        → (b : Bool) → same_node (resender p.message) r ≡ b → lapses_to r (resender p.message ∷ []) + rest ≡ n
    by_test none same more true t = absurd (none (e, node_same (resender p.message) r t))
    by_test none same more false t =
        let z : cond {A = ℕ} (same_node (resender p.message) r) 1 0 ≡ 0 = ap (λ b. cond b 1 0) t in omega arith
due_of r p (Once way) e rest n k h = ⊎_elim
    (λ (u : ((p.fate ≡ Lost) × (resender p.message ≡ r)) × ((n ≡ suc k) × (rest ≡ k))).
    let clash : Once way ≡ Lost = sym e ∙ u.0.0 in absurd (cc))
    (λ (u : ((p.fate ≡ Lost) × (resender p.message ≡ r) → ⊥) × (rest ≡ n)).
    let same = u.1 in let z : 0 + rest ≡ n = omega arith in z)
    h
due_of r p (Twice first second) e rest n k h = ⊎_elim
    (λ (u : ((p.fate ≡ Lost) × (resender p.message ≡ r)) × ((n ≡ suc k) × (rest ≡ k))).
    let clash : Twice first second ≡ Lost = sym e ∙ u.0.0 in absurd (cc))
    (λ (u : ((p.fate ≡ Lost) × (resender p.message ≡ r) → ⊥) × (rest ≡ n)).
    let same = u.1 in let z : 0 + rest ≡ n = omega arith in z)
    h

count_lost : (r : Node) (ps : List Posting) (k : ℕ)
    → CountIs (λ (p : Posting). (p.fate ≡ Lost) × (resender p.message ≡ r)) ps k → lapses_to r (flat_map lost_due ps)
    ≡ k
count_lost r [] k c = sym c
count_lost r (p ∷ ps) k c =
    let P = λ (q : Posting). (q.fate ≡ Lost) × (resender q.message ≡ r) in
    sum_by-append (λ (x : Node). cond (same_node x r) 1 0) (lost_due p) (flat_map lost_due ps) ∙ ⊎_elim
    (λ (u : P p × ((j : ℕ) × (k ≡ suc j) × CountIs P ps j)).
    due_of r p p.fate refl (lapses_to r (flat_map lost_due ps)) k u.1.0
    (inl (u.0, (u.1.1, count_lost r ps u.1.0 u.1.2))))
    (λ (u : (P p → ⊥) × CountIs P ps k).
    due_of r p p.fate refl (lapses_to r (flat_map lost_due ps)) k 0 (inr (u.0, count_lost r ps k u.1)))
    c

module _ (script : Script) (rooms : List ServerId) (flags : List (List ℕ)) (steps : List (List Message)) where
  -- no more lapse steps of a node than lapses that are due to it
  pub lapses_fit : (net : Network) (taken : List Packet) (lapsed : List Node)
      → Goes (all_net script rooms flags steps) net taken lapsed → (r : Node) (past own : List Step)
      → lapses_of r past ≡ lapses_taken own → lapses_taken own ≤ lapses_to r lapsed → (n k : ℕ)
      → CountIs (λ (t : Step). (t.node ≡ r) × (t.cause ≡ LapsesBy)) past n
      → CountIs (λ (p : Posting). (p.fate ≡ Lost) × (resender p.message ≡ r)) (posted script (all_sent steps)) k
      → n ≤ lapses_to r (map Server rooms) + k
  lapses_fit net taken lapsed g r past own own_is fits n k c d =
      let count : Node → ℕ = λ x. cond (same_node x r) 1 0 in
      let p = always_posted script rooms steps in
      let ps = posted script (all_sent steps) in
      let due : (all_net script rooms flags steps).due ≡ map Server rooms ++ flat_map lost_due ps =
      flagged_due flags (with_steps (fresh script rooms) steps) ∙ p.due in
      let part = part_count (λ x. same_node x r) lapsed (all_net script rooms flags steps).due
      (front lapsed net.due (all_net script rooms flags steps).due g.due) in
      let whole : lapses_to r (all_net script rooms flags steps).due
      ≡ lapses_to r (map Server rooms) + lapses_to r (flat_map lost_due ps) = ap (lapses_to r) due ∙ sum_by-append
      count (map Server rooms) (flat_map lost_due ps) in
      let a = count_lapses r past n c in
      let b = count_lost r ps k d in omega arith

  -- what was taken was sent
  pub taken_sent : (net : Network) (taken : List Packet) (lapsed : List Node)
      → Goes (all_net script rooms flags steps) net taken lapsed → (m : Message) → In m (messages taken)
      → In m (all_sent steps)
  taken_sent net taken lapsed g m i =
      let plain = (with_steps (fresh script rooms) steps).packets in
      let f = raised_by flags in
      let all : Embeds taken (map f plain) =
      subst (Embeds taken) (flagged_packets flags (with_steps (fresh script rooms) steps))
      (front taken net.packets (all_net script rooms flags steps).packets g.packets) in
      let z = pulled f taken plain all in
      let there = in_map (λ (x : Packet). x.message) m (map f z.0) (subst (λ l. In m (messages l)) z.1 i) in
      let one = in_map f there.0 z.0 there.1 in
      let copy : In (copy_of one.0) (flat_map copies_of (posted script (all_sent steps))) =
      subst (In (copy_of one.0)) (always_posted script rooms steps).copies
      (map_in copy_of one.0 plain (embeds_in z.0 plain one.0 z.2 one.1)) in
      let sent = copies_in script (all_sent steps) [] (all_left script.net) (copy_of one.0) copy in
      subst (λ x. In x (all_sent steps))
      (sym (there.2 ∙ ap (λ (x : Packet). x.message) one.2 ∙ message_same flags one.0)) sent
