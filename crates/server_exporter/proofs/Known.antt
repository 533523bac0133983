-- What a server's tables tell of a request: whether it waits already, is old, is meant so that it can be answered.
use Rattle.std.proofs.Common.{◌≡◌, ◌⊎◌, ◌≤◌, ◌<◌, ◌==◌, ℕ, Bool, true, false, ◌&&◌, not, List, [], ◌∷◌, Option, ◌||◌}
use Rattle.std.proofs.Common.{None, if◌then◌else◌}
use Rattle.std.proofs.Common.{Some, inl, inr, refl, sym, ◌∙◌, ap, subst, arith, eqb-true, eq-eqb}
use Rattle.std.proofs.lemmas.Bool.{and_from, and_parts, cases_Bool, false≢true}
use Rattle.std.proofs.lemmas.Bool.Decides.{nat_tests}
use Rattle.std.specs.Option.{option_map_or}
use Rattle.std.specs.Prelude.{is_none, is_some, nat_le, nat_lt}
use Rattle.base_types.specs.declared.ids.FilesetId.{FilesetId}
use Rattle.base_types.specs.declared.ids.HostId.{HostId}
use Rattle.message_types.specs.declared.asking.Change.{Change as ChangeOf}
use Rattle.message_types.specs.declared.message.Body.TheVariants.{Done}
use Rattle.need_host.specs.Questions.{fileset_of}
use Rattle.run_rules.specs.Doings.{Doing, IsDurable, SentTo, WasWritten, epoch}
use Rattle.run_rules.specs.Past.{In}
use Rattle.run_rules.specs.ServerDecides.{IsDecidedHere, IsMeantSo}
use Rattle.run_rules.specs.Wants.{CannotBothWait, IsOld, NoneQueued, is_use, locks_nothing}
use Rattle.run_rules.specs.declared.applied.Request.{Request}
use Rattle.run_rules.specs.declared.applied.Request.TheVariants.{Change as Changes, Fetch as Asks}
use Rattle.run_rules.specs.declared.applied.Wanted.{Wanted}
use Rattle.run_rules.specs.declared.applied.Written.{Written}
use Rattle.server_tables.specs.Answers.{once_more, AreLastChanges, is_before, is_durable, is_for_change, is_old}
use Rattle.server_tables.specs.Answers.{last_change}
use Rattle.server_tables.specs.Places.{is_of}
use Rattle.server_tables.specs.Queue.{is_for, is_meant_so, is_same_number, is_waiting}
use Rattle.server_tables.specs.Standing.{Stands, WroteThis, IsLastChange}
use Rattle.server_tables.specs.declared.pending.Pending.{Pending}
use Rattle.server_tables.specs.declared.tables.LastChange.{LastChange}
use Rattle.server_tables.specs.declared.tables.Tables.{Tables}
use Rattle.server_tables.proofs.Answering.{same_fileset}
use Rattle.server_tables.proofs.Fetching.{same_host}
use Rattle.server_tables.proofs.Judged.{found_first, here_from, here_to, none_found}
use Rattle.server_tables.proofs.Settling.{any_in, in_any}
use Rattle.server_decides.specs.Taking.{is_decided_here}
use Rattle.message_types.specs.declared.telling.Done.{Done as DoneOf}
use Rattle.run_rules.specs.ServerMay.{HasWritten, IsLast}
use Rattle.server_tables.proofs.Still.{StayPut}
use Rattle.server_tables.specs.Answers.{again_of, answer_again}

-- # Whether one of its number waits

number_is : (r q : Request) → is_same_number r q ≡ true → CannotBothWait r q
number_is (Asks f) (Asks g) e =
    let p = and_parts (f.fid.fileset.0 == g.fid.fileset.0) (f.number == g.number) e in
    (same_fileset f.fid.fileset g.fid.fileset p.0, eqb-true f.number g.number p.1)
number_is (Changes c) (Changes d) e = same_fileset c.fileset d.fileset e
number_is (Asks f) (Changes d) e = absurd (cc)
number_is (Changes c) (Asks g) e = absurd (cc)

is_number : (r q : Request) → CannotBothWait r q → is_same_number r q ≡ true
is_number (Asks f) (Asks g) w = and_from (f.fid.fileset.0 == g.fid.fileset.0) (f.number == g.number)
    (eq-eqb f.fid.fileset.0 g.fid.fileset.0 (ap (λ (z : FilesetId). z.0) w.0)) (eq-eqb f.number g.number w.1)
is_number (Changes c) (Changes d) w = eq-eqb c.fileset.0 d.fileset.0 (ap (λ (z : FilesetId). z.0) w)
is_number (Asks f) (Changes d) w = elim w [ ]
is_number (Changes c) (Asks g) w = elim w [ ]

module _ (past : List Doing) (x : Tables) (z : Stands past x) (h : HostId) (r : Request) where
  pub one_waits : is_waiting x.pending h r ≡ true → NoneQueued past h r → ⊥
  one_waits e none =
      let p = any_in (λ (q : Pending). is_for q h r) x.pending e in
      let a = and_parts (p.0.wanted.host.0 == h.0) (is_same_number p.0.wanted.request r) p.2 in
      none p.0.wanted (z.wants.pending p.0 p.1) (same_host p.0.wanted.host h a.0) (number_is p.0.wanted.request r a.1)

  pub none_waits : is_waiting x.pending h r ≡ false → NoneQueued past h r
  none_waits e w u same both =
      let p = z.wants.pending_all w u in
      false≢true (sym e ∙ in_any (λ (q : Pending). is_for q h r) p.0 x.pending p.1
      (subst (λ (v : Wanted). ((v.host.0 == h.0) && is_same_number v.request r) ≡ true) (sym p.2)
      (and_from (w.host.0 == h.0) (is_same_number w.request r)
      (eq-eqb w.host.0 h.0 (ap (λ (k : HostId). k.0) same)) (is_number w.request r both))))

-- # Whether it is old

or_left : (a b : Bool) → a ≡ true → (a || b) ≡ true
or_left true b e = refl
or_left false b e = absurd (cc)

or_right : (a b : Bool) → b ≡ true → (a || b) ≡ true
or_right true b e = refl
or_right false b e = e

or_either : (a b : Bool) → (a || b) ≡ true → (a ≡ true) ⊎ (b ≡ true)
or_either true b e = inl refl
or_either false b e = inr e

less : (a b : ℕ) → nat_lt a b ≡ true → a < b
less a b e = grind (arith, nat_tests, e)

is_less : (a b : ℕ) → a < b → nat_lt a b ≡ true
is_less a b e = grind (arith, nat_tests, e)

no_more : (a b : ℕ) → nat_le a b ≡ true → a ≤ b
no_more a b e = grind (arith, nat_tests, e)

is_no_more : (a b : ℕ) → a ≤ b → nat_le a b ≡ true
is_no_more a b e = grind (arith, nat_tests, e)

wrote_is : (past : List Doing) (w : Written) → WroteThis past w
    → WasWritten past w.answer.host w.fileset w.number
wrote_is [] w o = o
wrote_is (a ∷ past) w (inl e) = inl (w, e, refl, refl, refl)
wrote_is (a ∷ past) w (inr o) = inr (wrote_is past w o)

was_wrote : (past : List Doing) (h : HostId) (f : FilesetId) (n : ℕ) → WasWritten past h f n
    → (w : Written) × WroteThis past w × (w.answer.host ≡ h) × (w.fileset ≡ f) × (w.number ≡ n)
was_wrote [] h f n o = elim o [ ]
was_wrote (a ∷ past) h f n (inl o) = (o.0, inl o.1, o.2, o.3, o.4)
was_wrote (a ∷ past) h f n (inr o) = let q = was_wrote past h f n o in (q.0, inr q.1, q.2, q.3, q.4)

module _ (past : List Doing) (x : Tables) (z : Stands past x) (h : HostId) (c : ChangeOf) where
  abbrev before : Option LastChange → Bool
  before o = option_map_or (λ (l : LastChange). is_before l x.hosts.epoch c.number) o false

  old_by : (l : LastChange) → In l x.changes → l.host ≡ h → l.fileset ≡ c.fileset
      → is_before l x.hosts.epoch c.number ≡ true → IsOld past h (Changes c)
  old_by l i host fileset e =
      let k = z.changes.last l i in
      elim (or_either (is_durable l.written c.number)
      (nat_lt c.number l.done.bring.number || ((l.epoch == x.hosts.epoch) && (c.number == l.done.bring.number))) e) [
        | inl d ↦ inl (durable l.written refl d)
        | inr d ↦ inr (
          l.epoch,
          k.n,
          l.done,
          subst (λ (g : HostId). SentTo past g l.epoch k.n (Done l.done)) host k.sent,
          k.of ∙ fileset,
          elim (or_either (nat_lt c.number l.done.bring.number)
              ((l.epoch == x.hosts.epoch) && (c.number == l.done.bring.number)) d) [
                | inl f ↦ inl (less c.number l.done.bring.number f)
                | inr f ↦ (let p = and_parts (l.epoch == x.hosts.epoch) (c.number == l.done.bring.number) f in
                    inr (
                      eqb-true c.number l.done.bring.number p.1,
                      eqb-true l.epoch x.hosts.epoch p.0 ∙ z.hosts.epoch_is,
                    ))
              ],
        )
      ]
    where
      durable : (o : Option Written) → l.written ≡ o → is_durable o c.number ≡ true
          → IsDurable past h c.fileset c.number
      durable None q d = absurd (cc)
      durable (Some w) q d =
          let k = (z.changes.last l i).wrote w q in (
            w.number,
            no_more c.number w.number d,
            subst (λ (y : HostId × FilesetId). WasWritten past y.0 y.1 w.number)
                (λ j. ((k.1 ∙ host) j, (k.2 ∙ fileset) j)) (wrote_is past w k.0),
          )

  pub old_is : is_old x h c ≡ true → IsOld past h (Changes c)
  old_is e = by (last_change x.changes h c.fileset) refl e
    where
      by : (o : Option LastChange) → last_change x.changes h c.fileset ≡ o → before o ≡ true → IsOld past h (Changes c)
      by None q e = absurd (cc)
      by (Some l) q e =
          let f = found_first (is_for_change h c.fileset) x.changes l q in
          let p = and_parts (l.host.0 == h.0) (l.fileset.0 == c.fileset.0) f.1 in
          old_by l f.0 (same_host l.host h p.0) (same_fileset l.fileset c.fileset p.1) e

  -- what was answered last to the host's Changes of the fileset is found
  pub found : AreLastChanges x.changes → (l : LastChange) → In l x.changes → l.host ≡ h → l.fileset ≡ c.fileset
      → last_change x.changes h c.fileset ≡ Some l
  found single l i host fileset = by (last_change x.changes h c.fileset) refl
    where
      by : (o : Option LastChange) → last_change x.changes h c.fileset ≡ o → o ≡ Some l
      by None q = absurd (none_found (is_for_change h c.fileset) x.changes q l i
          (and_from (l.host.0 == h.0) (l.fileset.0 == c.fileset.0)
          (eq-eqb l.host.0 h.0 (ap (λ (k : HostId). k.0) host))
          (eq-eqb l.fileset.0 c.fileset.0 (ap (λ (k : FilesetId). k.0) fileset))))
      by (Some o) q =
          let f = found_first (is_for_change h c.fileset) x.changes o q in
          let p = and_parts (o.host.0 == h.0) (o.fileset.0 == c.fileset.0) f.1 in
          ap Some (single o l f.0 i (same_host o.host h p.0 ∙ sym host)
          (same_fileset o.fileset c.fileset p.1 ∙ sym fileset))

  is_old_by : AreLastChanges x.changes → (l : LastChange) → In l x.changes → l.host ≡ h → l.fileset ≡ c.fileset
      → is_before l x.hosts.epoch c.number ≡ true → is_old x h c ≡ true
  is_old_by single l i host fileset e =
      subst (λ (o : Option LastChange). before o ≡ true) (sym (found single l i host fileset)) e

  by_written : (l : LastChange) (w : Written) → l.written ≡ Some w → c.number ≤ w.number
      → is_before l x.hosts.epoch c.number ≡ true
  by_written l w e le = or_left (is_durable l.written c.number)
      (nat_lt c.number l.done.bring.number || ((l.epoch == x.hosts.epoch) && (c.number == l.done.bring.number)))
      (subst (λ (o : Option Written). is_durable o c.number ≡ true) (sym e) (is_no_more c.number w.number le))

  pub old_all : AreLastChanges x.changes → IsOld past h (Changes c) → is_old x h c ≡ true
  old_all single (inl d) =
      let w = was_wrote past h c.fileset d.0 d.2 in
      let l = z.changes.answered w.0 w.1 in
      let v = (z.changes.last l.0 l.1).wrote_all w.0 w.1 (sym l.2) (sym l.3) in
      let one = d.1 in let two = v.2 in let three = w.4 in
      is_old_by single l.0 l.1 (l.2 ∙ w.2) (l.3 ∙ w.3)
      (by_written l.0 v.0 v.1 (omega (arith, one, two, three)))
  old_all single (inr d) =
      let l = z.changes.last_all h d.0 d.1 d.2 d.3 in
      let k = z.changes.last l.0 l.1 in
      let top = k.top d.0 d.1 d.2 (subst (λ (g : HostId). SentTo past g d.0 d.1 (Done d.2)) (sym l.2) d.3) (sym l.3) in
      is_old_by single l.0 l.1 l.2 (l.3 ∙ d.4) (elim d.5 [
        | inl lt ↦ or_right (is_durable l.0.written c.number)
            (nat_lt c.number l.0.done.bring.number
            || ((l.0.epoch == x.hosts.epoch) && (c.number == l.0.done.bring.number)))
            (or_left (nat_lt c.number l.0.done.bring.number)
            ((l.0.epoch == x.hosts.epoch) && (c.number == l.0.done.bring.number))
            (is_less c.number l.0.done.bring.number (omega (arith, lt, top))))
        | inr e ↦ now l.0 k e.0 top (k.newest d.1 d.2
            (subst (λ (q : HostId × ℕ). SentTo past q.0 q.1 d.1 (Done d.2)) (λ j. (sym l.2 j, e.1 j)) d.3) (sym l.3))
      ])
    where
      at_or_below : (a b : ℕ) → a ≤ b → (a < b) ⊎ (a ≡ b)
      at_or_below a b le = elim (cases_Bool (nat_lt a b)) [
        | inl e ↦ inl (less a b e)
        | inr e ↦ inr (grind (arith, nat_tests, e, le))
      ]

      now : (l : LastChange) → IsLastChange past l → c.number ≡ d.2.bring.number
          → d.2.bring.number ≤ l.done.bring.number
          → (l.epoch ≡ epoch past) ⊎ ((w : Written) × (l.written ≡ Some w) × (l.done.bring.number ≤ w.number))
          → is_before l x.hosts.epoch c.number ≡ true
      now l k e top (inr w) = let le = w.2 in by_written l w.0 w.1 (omega (arith, e, top, le))
      now l k e top (inl is) = elim (at_or_below d.2.bring.number l.done.bring.number top) [
        | inl lt ↦ or_right (is_durable l.written c.number)
            (nat_lt c.number l.done.bring.number
            || ((l.epoch == x.hosts.epoch) && (c.number == l.done.bring.number)))
            (or_left (nat_lt c.number l.done.bring.number)
            ((l.epoch == x.hosts.epoch) && (c.number == l.done.bring.number))
            (is_less c.number l.done.bring.number (omega (arith, lt, e))))
        | inr same ↦ or_right (is_durable l.written c.number)
            (nat_lt c.number l.done.bring.number
            || ((l.epoch == x.hosts.epoch) && (c.number == l.done.bring.number)))
            (or_right (nat_lt c.number l.done.bring.number)
            ((l.epoch == x.hosts.epoch) && (c.number == l.done.bring.number))
            (and_from (l.epoch == x.hosts.epoch) (c.number == l.done.bring.number)
            (eq-eqb l.epoch x.hosts.epoch (is ∙ sym z.hosts.epoch_is))
            (eq-eqb c.number l.done.bring.number (e ∙ same))))
      ]

-- # Whether it is decided here, and meant so

pub decided_is : (past : List Doing) (x : Tables) (c : ChangeOf) → StayPut x.server past → is_decided_here x c ≡ true
    → IsDecidedHere x.server past c.fileset 0
decided_is past x c put e = elim (or_either (c.fileset.0 == 0) (is_of x.server c.fileset) e) [
  | inl q ↦ inl (eqb-true c.fileset.0 0 q, refl)
  | inr q ↦ inr (here_to x.server past c.fileset 0 put refl q)
]

pub is_decided : (past : List Doing) (x : Tables) (c : ChangeOf) (n : ℕ) → StayPut x.server past
    → IsDecidedHere x.server past c.fileset n → (is_decided_here x c ≡ true) × (n ≡ 0)
is_decided past x c n put (inl q) = (
  or_left (c.fileset.0 == 0) (is_of x.server c.fileset) (eq-eqb c.fileset.0 0 q.0),
  q.1,
)
is_decided past x c n put (inr q) =
    let p = here_from x.server past c.fileset n put q in
    (or_right (c.fileset.0 == 0) (is_of x.server c.fileset) p.1, p.0)

not_true : (b : Bool) → not b ≡ true → b ≡ false
not_true true e = absurd (false≢true e)
not_true false e = refl

some_of : {A : Type 0} (o : Option A) → is_none o ≡ false → is_some o ≡ true
some_of None e = absurd (cc)
some_of (Some a) e = refl

none_of : {A : Type 0} (o : Option A) → is_some o ≡ true → is_none o ≡ false
none_of None e = absurd (cc)
none_of (Some a) e = refl

pub meant_is : (c : ChangeOf) → is_meant_so c ≡ true → IsMeantSo c
meant_is c e =
    let p = and_parts (not (c.enter && is_none (fileset_of c.call)))
    ((not (is_use c.call) || (c.fid.fileset.0 == c.fileset.0)) && not (locks_nothing c.call)) e in
    let q = and_parts (not (is_use c.call) || (c.fid.fileset.0 == c.fileset.0)) (not (locks_nothing c.call)) p.1 in (
      λ t. some_of (fileset_of c.call) (both c.enter (is_none (fileset_of c.call)) t
          (not_true (c.enter && is_none (fileset_of c.call)) p.0)),
      λ u. same_fileset c.fid.fileset c.fileset (used (is_use c.call) (c.fid.fileset.0 == c.fileset.0) u q.0),
      not_true (locks_nothing c.call) q.1,
    )
  where
    both : (a b : Bool) → a ≡ true → (a && b) ≡ false → b ≡ false
    both true b e d = d
    both false b e d = absurd (cc)

    used : (a b : Bool) → a ≡ true → (not a || b) ≡ true → b ≡ true
    used true b e d = d
    used false b e d = absurd (cc)

pub is_meant : (c : ChangeOf) → IsMeantSo c → is_meant_so c ≡ true
is_meant c m =
    and_from (not (c.enter && is_none (fileset_of c.call)))
    ((not (is_use c.call) || (c.fid.fileset.0 == c.fileset.0)) && not (locks_nothing c.call))
    (enters c.enter refl)
    (and_from (not (is_use c.call) || (c.fid.fileset.0 == c.fileset.0)) (not (locks_nothing c.call))
    (uses (is_use c.call) refl) (ap not m.2))
  where
    enters : (b : Bool) → c.enter ≡ b → not (b && is_none (fileset_of c.call)) ≡ true
    enters true e = ap not (none_of (fileset_of c.call) (m.0 e))
    enters false e = refl

    uses : (b : Bool) → is_use c.call ≡ b → (not b || (c.fid.fileset.0 == c.fileset.0)) ≡ true
    uses true e = eq-eqb c.fid.fileset.0 c.fileset.0 (ap (λ (f : FilesetId). f.0) (m.1 e))
    uses false e = refl

-- # One that is old has an answer

module _ (past : List Doing) (x : Tables) (z : Stands past x) (single : AreLastChanges x.changes) (h : HostId)
    (c : ChangeOf) (d : DoneOf) (fileset : d.fileset ≡ c.fileset) (number : d.bring.number ≡ c.number)
    (last : IsLast past h d) (none : answer_again x h c ≡ None) where
  -- what was answered last has this number
  same_number : (l : LastChange) → In l x.changes → l.host ≡ h → l.fileset ≡ c.fileset
      → d.bring.number ≤ l.done.bring.number → ⊥
  same_number l i host of above =
      let k = z.changes.last l i in
      let below : l.done.bring.number ≤ d.bring.number = last l.epoch k.n l.done
      (subst (λ (g : HostId). SentTo past g l.epoch k.n (Done l.done)) host k.sent) (k.of ∙ of ∙ sym fileset) in
      let same : l.done.bring.number ≡ c.number = omega (arith, below, above, number) in
      by (l.done.bring.number == c.number) (eq-eqb l.done.bring.number c.number same)
      (ap (again_of x.tokens.grants c.number) (sym (found past x z h c single l i host of)) ∙ none)
    where
      by : (b : Bool) → b ≡ true
          → (if b then Some (once_more x.tokens.grants l.done) else None) ≡ None → ⊥
      by true e q = let p : Some (once_more x.tokens.grants l.done) ≡ None = q in cc
      by false e q = false≢true e

  was_this : (l : List Doing) → HasWritten l h d
      → (w : Written) × WroteThis l w × (w.answer.host ≡ h) × (w.fileset ≡ d.fileset) × (w.number ≡ d.bring.number)
  was_this [] w = elim w [ ]
  was_this (a ∷ l) (inl w) = (w.0, inl w.1, w.2, w.3, w.4)
  was_this (a ∷ l) (inr w) = let q = was_this l w in (q.0, inr q.1, q.2, q.3, q.4)

  pub never_none : HasWritten past h d ⊎ ((k : ℕ) × SentTo past h (epoch past) k (Done d)) → ⊥
  never_none (inl w) =
      let q = was_this past w in
      let l = z.changes.answered q.0 q.1 in
      let k = z.changes.last l.0 l.1 in
      let v = k.wrote_all q.0 q.1 (sym l.2) (sym l.3) in
      let up = v.2 in
      let this = q.4 in
      same_number l.0 l.1 (l.2 ∙ q.2) (l.3 ∙ q.3 ∙ fileset) (elim (k.reply v.0 v.1) [
        | inl lt ↦ omega (arith, lt, up, this)
        | inr e ↦ (let same = e.0 in omega (arith, same, up, this))
      ])
  never_none (inr s) =
      let l = z.changes.last_all h (epoch past) s.0 d s.1 in
      let k = z.changes.last l.0 l.1 in
      same_number l.0 l.1 l.2 (l.3 ∙ fileset)
      (k.top (epoch past) s.0 d (subst (λ (g : HostId). SentTo past g (epoch past) s.0 (Done d)) (sym l.2) s.1)
      (sym l.3))
