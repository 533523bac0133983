-- One decision of a step in the making: the tables stand for what was decided and said so far, with the words at the
-- end.
use Rattle.std.proofs.Common.{◌≡◌, ◌≢◌, ◌≤◌, ◌+◌, ℕ, true, List, [], ◌∷◌, ◌++◌, Some, length}
use Rattle.std.proofs.Common.{inl, inr, refl, sym, subst}
use Rattle.std.specs.Prelude.{remove}
use Rattle.base_types.specs.declared.limits.TheConstants.{NEEDS_MAX}
use Rattle.tree_calls.specs.declared.reply.Reply.{Reply}
use Rattle.message_types.specs.declared.asking.Change.{Change as ChangeOf}
use Rattle.message_types.specs.declared.message.Body.TheVariants.{Done}
use Rattle.message_types.specs.declared.message.Message.{Message}
use Rattle.run_rules.specs.Doings.{Doing, NoGrace, after_cause, deciding, sending}
use Rattle.run_rules.specs.Doings.Doing.{MakesWant, Sent, WritesDown}
use Rattle.run_rules.specs.Past.{In, appended}
use Rattle.run_rules.specs.ServerDecides.{IsAskedHere}
use Rattle.run_rules.specs.Wants.{Decides, IsQueued}
use Rattle.run_rules.specs.declared.applied.Applied.TheVariants.{Wants as IsWanted}
use Rattle.run_rules.specs.declared.applied.Request.TheVariants.{Change as Changes}
use Rattle.run_rules.specs.declared.applied.Wanted.{Wanted}
use Rattle.run_rules.specs.declared.step.Cause.{Cause}
use Rattle.token_manager.specs.Managers.{after_enqueue}
use Rattle.token_types.specs.declared.token.Need.{Need}
use Rattle.server_tables.specs.Answers.{renewed}
use Rattle.server_tables.specs.Listing.{no_grace}
use Rattle.server_tables.specs.Standing.{Stands, want_for}
use Rattle.server_tables.specs.Updates.{enqueued, tokens_enqueued, unqueued}
use Rattle.server_tables.specs.declared.pending.Pending.{Pending}
use Rattle.server_tables.specs.declared.tables.Tables.{Tables}
use Rattle.server_tables.proofs.Anewing.{stands_anew}
use Rattle.server_tables.proofs.Carried.{stands_carried}
use Rattle.server_tables.proofs.Drafting.{so_far, wants_apart, written_more, wanted_more}
use Rattle.server_tables.proofs.Listed.{is_over}
use Rattle.server_tables.proofs.Numbered.{Rise}
use Rattle.server_tables.proofs.Still.{decided_home}
use Rattle.server_tables.proofs.Unqueued.{is_less, it_waits, left_is}
use Rattle.server_tables.proofs.Updated.{renewed_is}
use Rattle.server_tables.proofs.Writing.{stands_after}
use Rattle.server_decides.specs.Drafts.{word}
use Rattle.server_decides.specs.Taking.{wanted_for}
use Rattle.server_decides.specs.Draft.{Draft}
use Rattle.server_decides.specs.Deciding.{IsPlaced}
use Rattle.server_decides.specs.Writing.{done_of, written_made, written_of}

-- a Change that waits is of the first stay
pub change_home : (past : List Doing) (x : Tables) → Stands past x → (w : Wanted) → IsQueued past w → (c : ChangeOf)
    → w.request ≡ Changes c → w.moves ≡ 0
change_home past x z w waits c is =
    decided_home x.server past c.fileset w.moves z.slots (subst (IsAskedHere x.server past w.moves) is (z.wants.here w waits)).0

-- the want at a place is a Change's, and is written down with this reply
module _ (cause : Cause) (past : List Doing) (x : Tables) (d : Draft)
    (z : Stands (so_far cause d.applied [] d.sent past) x) (rise : Rise x.pending) (at : ℕ) (p : Pending)
    (place : IsPlaced x.pending at p) (c : ChangeOf) (is : p.wanted.request ≡ Changes c)
    (over : NoGrace (so_far cause d.applied [] d.sent past)) (reply : Reply) where
  abbrev said : List Doing
  said = so_far cause d.applied [] d.sent past

  abbrev w : Wanted
  w = p.wanted

  abbrev both : Tables × Draft
  both = let m = written_made (unqueued x at p.number) d w.host c reply in (m.tables, m.draft)

  waits : IsQueued said w
  waits = z.wants.pending p (it_waits said x z rise at p place.0 place.1)

  abbrev told : Message
  told = word x w.host (Done (done_of c reply))

  abbrev after : List Doing
  after = Sent told.host told.epoch told.moves told.body ∷ WritesDown (written_of w.host c reply) ∷ said

  written_stands : Stands after both.0
  written_stands =
      subst (λ (n : ℕ). Stands (Sent w.host x.hosts.epoch n (Done (done_of c reply))
      ∷ WritesDown (written_of w.host c reply) ∷ said) both.0)
      (change_home said x z w waits c is)
      (stands_after said x z w waits c is over reply (remove x.pending at)
      (is_less said x z rise at p place.0 place.1).of (is_less said x z rise at p place.0 place.1).all
      (renewed x w.host (done_of c reply) (Some (written_of w.host c reply)))
      (renewed_is x w.host (done_of c reply) (Some (written_of w.host c reply)))
      (unqueued x at p.number).tokens.queue (left_is said x z rise at p place.0 place.1 over))

  pub made_stands : Stands (so_far cause both.1.applied [] both.1.sent past) both.0
  made_stands =
      stands_carried after (so_far cause both.1.applied [] both.1.sent past) both.0
      (written_more x.server cause d.applied d.sent (written_of w.host c reply) told past) written_stands

-- # A want that waits was decided by no word

abbrev pub as_sent : Message → Doing
as_sent m = Sent m.host m.epoch m.moves m.body

pub words_back : (sent : List Message) (past : List Doing) (w : Wanted) → IsQueued (appended (sending sent) past) w
    → IsQueued past w
words_back [] past w u = u
words_back (m ∷ ms) past w u = elim (words_back ms (as_sent m ∷ past) w u) [ inl p ↦ absurd (cc) | inr p ↦ p.0 ]

pub undecided : (sent : List Message) (past : List Doing) (w : Wanted) → IsQueued (appended (sending sent) past) w
    → (m : Message) → In m sent → Decides (as_sent m) w.host w.request → ⊥
undecided [] past w u m i d = elim i [ ]
undecided (n ∷ ms) past w u m (inl e) d = elim (words_back ms (as_sent n ∷ past) w u) [
  | inl p ↦ absurd (cc)
  | inr p ↦ p.1 (inl (subst (λ (o : Message). Decides (as_sent o) w.host w.request) e d))
]
undecided (n ∷ ms) past w u m (inr i) d = undecided ms (as_sent n ∷ past) w u m i d

-- # A want is made anew

-- a want made out of a grace period is asked at the token manager
enqueued_is : (x : Tables) (w : Wanted) → no_grace x.hosts ≡ true → enqueued x w ≡ record x {
  tokens = after_enqueue x.tokens (want_for (record { number = x.next; wanted = w }));
  pending = x.pending ++ record { number = x.next; wanted = w } ∷ [];
  next = x.next + 1;
}
unfolding tokens_enqueued
enqueued_is x w e = rw e refl

module _ (cause : Cause) (past : List Doing) (x : Tables) (d : Draft)
    (z : Stands (so_far cause d.applied [] d.sent past) x) (rise : Rise x.pending) (at : ℕ) (p : Pending)
    (place : IsPlaced x.pending at p) (c : ChangeOf) (is : p.wanted.request ≡ Changes c)
    (over : NoGrace (so_far cause d.applied [] d.sent past)) (needs : List Need)
    (differs : p.wanted.needs ≢ needs) (few : length needs ≤ NEEDS_MAX) where
  abbrev before : List Doing
  before = so_far cause d.applied [] d.sent past

  abbrev old : Wanted
  old = p.wanted

  abbrev new : Wanted
  new = wanted_for old.host old.request needs

  abbrev out : Tables
  out = unqueued x at p.number

  old_waits : IsQueued before old
  old_waits = z.wants.pending p (it_waits before x z rise at p place.0 place.1)

  abbrev with_moves : ℕ → Wanted
  with_moves n = record { host = old.host; request = old.request; moves = n; needs = needs }

  anew_after : Stands (MakesWant new ∷ before) (enqueued out new)
  anew_after =
      subst (λ (n : ℕ). Stands (MakesWant (with_moves n) ∷ before) (enqueued out (with_moves n)))
      (change_home before x z old old_waits c is)
      (subst (Stands (MakesWant (with_moves old.moves) ∷ before))
      (sym (enqueued_is out (with_moves old.moves) (is_over before x.hosts z.hosts over)))
      (stands_anew before x z old old_waits needs differs few (remove x.pending at) out.tokens.queue
      (is_less before x z rise at p place.0 place.1).of (is_less before x z rise at p place.0 place.1).all over
      (λ _. left_is before x z rise at p place.0 place.1 over)))

  -- no word that was said decides it
  none_decides : (m : Message) → In m d.sent → Decides (as_sent m) new.host new.request → ⊥
  none_decides m i o = undecided d.sent (appended (deciding d.applied) (after_cause cause past)) old old_waits m i o

  pub anew_stands : Stands (so_far cause (d.applied ++ IsWanted new ∷ []) [] d.sent past) (enqueued out new)
  anew_stands =
      stands_carried (MakesWant new ∷ before) (so_far cause (d.applied ++ IsWanted new ∷ []) [] d.sent past)
      (enqueued out new)
      (wanted_more x.server cause d.applied d.sent new past (wants_apart d.sent new none_decides)) anew_after
