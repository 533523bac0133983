-- A Change that comes again is answered as before: with its reply, where it was written down; with what was said in
-- this
-- epoch; or that the call is to be started anew, where the token that it was granted isn't any more.
use Rattle.std.proofs.Common.{List, Option, None, Some, [], ap, arith, eq-eqb, inl, inr, not, refl, subst}
use Rattle.std.proofs.Common.{sym, true, false, ℕ, Bool, ◌<◌, ◌&&◌, ◌||◌, ◌==◌, ◌∙◌, ◌∷◌, ◌≡◌, ◌≤◌, ◌⊎◌}
use Rattle.std.proofs.Common.{if◌then◌else◌, nat_le, nat_lt}
use Rattle.std.specs.List.{find, list_any}
use Rattle.std.specs.Option.{option_map_or}
use Rattle.std.proofs.lemmas.Bool.{and_parts, cases_Bool, eqb-true, false≢true, leb-true, ltb-true}
use Rattle.token_manager.proofs.Noting.{same_self}
use Rattle.base_types.specs.declared.ids.Fid.{Fid}
use Rattle.base_types.specs.declared.ids.FilesetId.{FilesetId}
use Rattle.base_types.specs.declared.ids.HostId.{HostId}
use Rattle.tree_answers.specs.declared.tree.Tree.{Tree}
use Rattle.token_manager.specs.Grants.{holds, token_at}
use Rattle.token_manager.specs.declared.grants.Grants.{Grants}
use Rattle.token_types.specs.Conflicts.{same_id}
use Rattle.token_types.specs.declared.token.Token.{Token}
use Rattle.token_types.specs.declared.token.TokenId.{TokenId}
use Rattle.message_types.specs.declared.asking.Change.{Change as ChangeOf}
use Rattle.message_types.specs.declared.message.Body.TheVariants.{Done, Grant}
use Rattle.message_types.specs.declared.telling.Bring.{Bring}
use Rattle.message_types.specs.declared.telling.Done.{Done as DoneOf}
use Rattle.message_types.specs.declared.telling.DoneIs.TheVariants.{Again, Granted as IsGranted, Reply as HasReply}
use Rattle.run_rules.specs.Doings.{BringsTokens, Doing, Granted, Issued, Issues, SentTo, StayStamp, epoch}
use Rattle.run_rules.specs.Doings.Doing.{Sent, WritesDown}
use Rattle.run_rules.specs.Past.{In}
use Rattle.run_rules.specs.ServerMay.{DoneFor, HasWritten, IsLast, WasGranted}
use Rattle.run_rules.specs.ServerMay.DoneFor.{OfWritten, Repeated, TakenBack}
use Rattle.run_rules.specs.declared.applied.Written.{Written}
use Rattle.server_tables.specs.declared.tables.LastChange.{LastChange}
use Rattle.server_tables.specs.declared.tables.Tables.{Tables}
use Rattle.server_tables.specs.Answers.{again_of, answer_again, done_without, has_still, is_before, is_durable}
use Rattle.server_tables.specs.Answers.{is_for_change, is_lost, is_old, last_change, once_more}
use Rattle.server_tables.specs.Standing.{IsLastChange, Stands, TokensStand, WroteThis, tokens_of}
use Rattle.server_tables.proofs.Answering.{same_fileset}
use Rattle.server_tables.proofs.Granting.{id_is}
use Rattle.server_tables.proofs.Judged.{found_first}
use Rattle.server_tables.proofs.Settling.{any_in, in_any}

not_is : (b : Bool) → not b ≡ true → b ≡ false
not_is true e = absurd (cc)
not_is false e = refl

pub same_host : (a b : HostId) → (a.0 == b.0) ≡ true → a ≡ b
same_host a b e = let q : a.0 ≡ b.0 = eqb-true a.0 b.0 e in λ i. record { 0 = q i }

-- # Lists of doings

has_written : (past : List Doing) (h : HostId) (d : DoneOf) (v : Written) → WroteThis past v → v.answer.host ≡ h
    → v.fileset ≡ d.fileset → v.number ≡ d.bring.number → d.outcome ≡ HasReply v.answer.reply → HasWritten past h d
has_written [] h d v o host fileset number reply = elim o [ ]
has_written (a ∷ past) h d v (inl p) host fileset number reply = inl (v, p, host, fileset, number, reply)
has_written (a ∷ past) h d v (inr o) host fileset number reply =
    inr (has_written past h d v o host fileset number reply)

-- a Done that was sent issued its tokens
was_issued : (past : List Doing) (h : HostId) (e n : ℕ) (d : DoneOf) → SentTo past h e n (Done d) → (t : Token)
    → In t d.bring.tokens → Issued past t (record { moves = n; stamp = d.bring.stamp })
was_issued [] h e n d s t i = elim s [ ]
was_issued (a ∷ past) h e n d (inl p) t i = inl (h, e, d.bring, inr (d, p, refl), i, refl)
was_issued (a ∷ past) h e n d (inr s) t i = inr (was_issued past h e n d s t i)

-- # Which tokens their host holds

missing : (t : Token) (ts : List Token) → find (λ token. same_id token.id t.id) ts ≡ None → In t ts → ⊥
missing t [] r i = elim i [ ]
missing t (u ∷ ts) r i = by (missing t ts) (same_id u.id t.id) refl r i
  where
    by : (find (λ token. same_id token.id t.id) ts ≡ None → In t ts → ⊥) → (b : Bool) → same_id u.id t.id ≡ b
        → find (λ token. same_id token.id t.id) (u ∷ ts) ≡ None → In t (u ∷ ts) → ⊥
    by rest true h r i = absurd (let z = rw h at r in cc)
    by rest false h r (inl j) =
        false≢true (sym h ∙ (ap (λ (w : Token). same_id w.id t.id) (sym j) ∙ same_self t.id))
    by rest false h r (inr j) = rest (let z = rw h at r in z) j

module _ (past : List Doing) (x : Tables) (s : TokensStand past x.server x.tokens.grants) (t : Token)
    (k : StayStamp) (issued : Issued past t k) (now : t.id.epoch ≡ epoch past) where
  abbrev grants : Grants
  grants = x.tokens.grants

  at_found : (o : Option Token) → token_at grants t.id ≡ o
      → option_map_or (λ (token : Token). token.host.0 == t.host.0) o false ≡ true → Granted x.server past t
  at_found None e h = absurd (cc)
  at_found (Some u) e h =
      let f = found_first (λ token. same_id token.id t.id) (tokens_of grants) u e in
      let g = s.granted u f.0 in
      subst (Granted x.server past) (s.one t u k issued now g (id_is u.id t.id f.1)) g

  -- one that its host holds is granted
  held_granted : holds grants t.host t.id ≡ true → Granted x.server past t
  held_granted h = at_found (token_at grants t.id) refl h

  granted_at : (o : Option Token) → token_at grants t.id ≡ o → Granted x.server past t
      → option_map_or (λ (token : Token). token.host.0 == t.host.0) o false ≡ true
  granted_at None e g = absurd (missing t (tokens_of grants) e (s.granted_all t g))
  granted_at (Some u) e g =
      let f = found_first (λ token. same_id token.id t.id) (tokens_of grants) u e in
      let q = s.one t u k issued now (s.granted u f.0) (id_is u.id t.id f.1) in
      eq-eqb u.host.0 t.host.0 (ap (λ (w : Token). w.host.0) q)

  lost_gone : holds grants t.host t.id ≡ false → Granted x.server past t → ⊥
  lost_gone h g = false≢true (sym h ∙ granted_at (token_at grants t.id) refl g)

-- # The answer

-- what was answered last to the host's Changes of the fileset, which is answered once more
pub record IsAgain (x : Tables) (h : HostId) (c : ChangeOf) (d : DoneOf) : Type 0 where
  pub last : LastChange
  pub has : In last x.changes
  pub host : last.host ≡ h
  pub fileset : last.fileset ≡ c.fileset
  pub number : last.done.bring.number ≡ c.number
  pub found : last_change x.changes h c.fileset ≡ Some last
  pub so : once_more x.tokens.grants last.done ≡ d

from_last : (grants : Grants) (number : ℕ) (o : Option LastChange) (d : DoneOf) → again_of grants number o ≡ Some d
    → (l : LastChange) × (o ≡ Some l) × (l.done.bring.number ≡ number) × (once_more grants l.done ≡ d)
from_last grants number None d e = absurd (cc)
from_last grants number (Some l) d e = by (l.done.bring.number == number) refl e
  where
    by : (b : Bool) → (l.done.bring.number == number) ≡ b
        → (if b then Some (once_more grants l.done) else None) ≡ Some d
        → (m : LastChange) × (Some l ≡ Some m) × (m.done.bring.number ≡ number) × (once_more grants m.done ≡ d)
    by true q r = (l, refl, eqb-true l.done.bring.number number q, (let z = r in cc))
    by false q r = absurd (cc)

pub is_again : (x : Tables) (h : HostId) (c : ChangeOf) (d : DoneOf) → answer_again x h c ≡ Some d → IsAgain x h c d
is_again x h c d e =
    let l = from_last x.tokens.grants c.number (last_change x.changes h c.fileset) d e in
    let f = found_first (is_for_change h c.fileset) x.changes l.0 l.1 in
    let p = and_parts (l.0.host.0 == h.0) (l.0.fileset.0 == c.fileset.0) f.1 in record {
      last = l.0;
      has = f.0;
      host = same_host l.0.host h p.0;
      fileset = same_fileset l.0.fileset c.fileset p.1;
      number = l.2;
      found = l.1;
      so = l.3;
    }

-- a Change whose answer is old was answered in this epoch, or written down
module _ (past : List Doing) (x : Tables) (z : Stands past x) (h : HostId) (c : ChangeOf)
    (old : is_old x h c ≡ true) (d : DoneOf) (a : IsAgain x h c d) where
  abbrev l : LastChange
  l = a.last

  k : IsLastChange past l
  k = z.changes.last l a.has

  is_one_before : is_before l x.hosts.epoch c.number ≡ true
  is_one_before = let r = rw a.found at old in r

  pub when : (l.epoch ≡ epoch past) ⊎ ((w : Written) × (l.written ≡ Some w) × (c.number ≤ w.number))
  when = by (is_durable l.written c.number) refl is_one_before
    where
      durable : (o : Option Written) → l.written ≡ o → is_durable o c.number ≡ true
          → (w : Written) × (l.written ≡ Some w) × (c.number ≤ w.number)
      durable None e q = absurd (cc)
      durable (Some w) e q = (w, e, leb-true c.number w.number q)

      by : (b : Bool) → is_durable l.written c.number ≡ b
          → (b || (nat_lt c.number l.done.bring.number
          || ((l.epoch == x.hosts.epoch) && (c.number == l.done.bring.number)))) ≡ true
          → (l.epoch ≡ epoch past) ⊎ ((w : Written) × (l.written ≡ Some w) × (c.number ≤ w.number))
      by true e q = inr (durable l.written refl e)
      by false e q = inl (this (nat_lt c.number l.done.bring.number) refl q)
        where
          this : (b : Bool) → nat_lt c.number l.done.bring.number ≡ b
              → (b || ((l.epoch == x.hosts.epoch) && (c.number == l.done.bring.number))) ≡ true
              → l.epoch ≡ epoch past
          this true e q = absurd (let n = a.number in let lt = ltb-true c.number l.done.bring.number e in
              omega (arith, lt, n))
          this false e q = eqb-true l.epoch x.hosts.epoch
              (and_parts (l.epoch == x.hosts.epoch) (c.number == l.done.bring.number) q).0 ∙ z.hosts.epoch_is

  -- no later one was answered
  last_of : (o : DoneOf) → o.fileset ≡ l.done.fileset → o.bring.number ≡ l.done.bring.number → IsLast past h o
  last_of o f n e m other t g =
      let q = k.top e m other (subst (λ (i : HostId). SentTo past i e m (Done other)) (sym a.host) t)
      (g ∙ f ∙ k.of) in
      omega (arith, q, n)

  sent_at : (e : ℕ) → l.epoch ≡ e → SentTo past h e 0 (Done l.done)
  sent_at e q = subst (λ (i : HostId). SentTo past i e 0 (Done l.done)) a.host
      (subst (λ (m : ℕ). SentTo past l.host e m (Done l.done)) k.home
      (subst (λ (m : ℕ). SentTo past l.host m k.n (Done l.done)) q k.sent))

  -- the reply of one that was written down
  replied : (w : Written) → l.written ≡ Some w → c.number ≤ w.number → (w.number ≡ l.done.bring.number)
      × (l.done.outcome ≡ HasReply w.answer.reply) × (l.done.bring.tokens ≡ []) × (l.done.bring.stamp ≡ 0)
  replied w e le = elim (k.reply w e) [
    | inl q ↦ absurd (let n = a.number in omega (arith, le, q, n))
    | inr q ↦ q
  ]

  of_written : (w : Written) → l.written ≡ Some w → c.number ≤ w.number → HasWritten past h l.done
  of_written w e le =
      let r = replied w e le in let q = k.wrote w e in
      has_written past h l.done w q.0 (q.1 ∙ a.host) (q.2 ∙ sym k.of) r.0 r.1

  -- # Its tokens

  token_now : l.epoch ≡ epoch past → (t : Token) → In t l.done.bring.tokens → t.id.epoch ≡ epoch past
  token_now e t i = (k.brings t i).1 ∙ e

  its_issue : l.epoch ≡ epoch past → (t : Token) → In t l.done.bring.tokens
      → Issued past t (record { moves = 0; stamp = l.done.bring.stamp })
  its_issue e t i = was_issued past h (epoch past) 0 l.done (sent_at (epoch past) e) t i

  abbrev lacks : Token → Bool
  lacks t = not (has_still x.tokens.grants t)

  -- one of this epoch is lost where its host hasn't it
  lost_now : l.epoch ≡ epoch past → (t : Token) → In t l.done.bring.tokens → lacks t ≡ true
      → holds x.tokens.grants t.host t.id ≡ false
  lost_now e t i q =
      right (t.id.epoch == x.tokens.grants.table.epoch) (holds x.tokens.grants t.host t.id)
      (eq-eqb t.id.epoch x.tokens.grants.table.epoch (token_now e t i ∙ sym z.tokens.epoch_is))
      (not_is (has_still x.tokens.grants t) q)
    where
      right : (a b : Bool) → a ≡ true → (a && b) ≡ false → b ≡ false
      right true b p q = q
      right false b p q = absurd (false≢true p)

  all_held : l.epoch ≡ epoch past → is_lost x.tokens.grants l.done.bring ≡ false → (t : Token)
      → In t l.done.bring.tokens → Granted x.server past t
  all_held e none t i =
      held_granted past x z.tokens t (record { moves = 0; stamp = l.done.bring.stamp }) (its_issue e t i)
      (token_now e t i) (elim (cases_Bool (has_still x.tokens.grants t)) [
        | inl q ↦ (and_parts (t.id.epoch == x.tokens.grants.table.epoch) (holds x.tokens.grants t.host t.id) q).1
        | inr q ↦ absurd (false≢true (sym none ∙ in_any lacks t l.done.bring.tokens i (ap not q)))
      ])

  none_held : l.epoch ≡ epoch past → is_lost x.tokens.grants l.done.bring ≡ true
      → (l.done.outcome ≡ IsGranted) × ((t : Token) → In t l.done.bring.tokens → Granted x.server past t → ⊥)
  none_held e lost =
      let f = any_in lacks l.done.bring.tokens lost in
      let b = k.brings f.0 f.1 in (
        b.0,
        λ t i g.
            lost_gone past x z.tokens f.0 (record { moves = 0; stamp = l.done.bring.stamp }) (its_issue e f.0 f.1)
            (token_now e f.0 f.1) (lost_now e f.0 f.1 f.2)
            (subst (Granted x.server past) (b.2 t i) g),
      )

  -- # Why it is said

  pub same_for : (tree : Tree) → is_lost x.tokens.grants l.done.bring ≡ false
      → DoneFor x.server tree past h 0 l.done
  same_for tree none = elim when [
    | inl e ↦ Repeated (sent_at (epoch past) e) (last_of l.done refl refl)
    | inr w ↦ OfWritten (of_written w.0 w.1 w.2) (replied w.0 w.1 w.2).2 (last_of l.done refl refl)
  ]

  abbrev anew : DoneOf
  anew = done_without l.done.fileset Again l.done.bring.number

  some_lost : is_lost x.tokens.grants l.done.bring ≡ true → l.epoch ≡ epoch past
  some_lost lost = elim when [
    | inl e ↦ e
    | inr w ↦ absurd (let f = any_in lacks l.done.bring.tokens lost in
        let none : In f.0 [] = subst (In f.0) (replied w.0 w.1 w.2).2 f.1 in none)
  ]

  pub anew_for : (tree : Tree) → is_lost x.tokens.grants l.done.bring ≡ true → DoneFor x.server tree past h 0 anew
  anew_for tree lost =
      let e = some_lost lost in let n = none_held e lost in
      TakenBack (l.done, 0, sent_at (epoch past) e, n.0, refl, refl, n.1) (last_of anew refl refl) refl refl

  abbrev either : Bool → DoneOf
  either lost = if lost then anew else l.done

  pub again_for : (tree : Tree) → DoneFor x.server tree past h 0 d
  again_for tree = subst (DoneFor x.server tree past h 0) a.so
      (by (is_lost x.tokens.grants l.done.bring) refl)
    where
      by : (b : Bool) → is_lost x.tokens.grants l.done.bring ≡ b → DoneFor x.server tree past h 0 (either b)
      by true e = anew_for tree e
      by false e = same_for tree e

  -- it brings none, or what was sent in this epoch and is granted still
  pub again_brings : (d.bring.tokens ≡ []) ⊎ (SentTo past h (epoch past) 0 (Done d)
      × ((t : Token) → In t d.bring.tokens → Granted x.server past t))
  again_brings = subst (λ (o : DoneOf). (o.bring.tokens ≡ []) ⊎ (SentTo past h (epoch past) 0 (Done o)
      × ((t : Token) → In t o.bring.tokens → Granted x.server past t))) a.so
      (by (is_lost x.tokens.grants l.done.bring) refl)
    where
      by : (b : Bool) → is_lost x.tokens.grants l.done.bring ≡ b
          → ((either b).bring.tokens ≡ []) ⊎ (SentTo past h (epoch past) 0 (Done (either b))
          × ((t : Token) → In t (either b).bring.tokens → Granted x.server past t))
      by true e = inl refl
      by false e = elim when [
        | inl q ↦ inr (sent_at (epoch past) q, λ t i. all_held q e t i)
        | inr w ↦ inl (replied w.0 w.1 w.2).2
      ]

  -- it is of the Change
  pub again_of_change : (d.fileset ≡ c.fileset) × (d.bring.number ≡ c.number)
  again_of_change = subst (λ (o : DoneOf). (o.fileset ≡ c.fileset) × (o.bring.number ≡ c.number)) a.so
      (by (is_lost x.tokens.grants l.done.bring))
    where
      by : (b : Bool) → ((either b).fileset ≡ c.fileset) × ((either b).bring.number ≡ c.number)
      by true = (k.of ∙ a.fileset, a.number)
      by false = (k.of ∙ a.fileset, a.number)
