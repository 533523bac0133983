-- What is replied is what the verdict means.
use Rattle.std.proofs.Common.{◌≡◌, ◌∙◌, Err, List, None, Ok, Option, Result, Some, ap, arith, refl, subst}
use Rattle.std.proofs.Common.{suc, sym, zero, ℕ}
use Rattle.std.proofs.Common.{Bool, [], min, nat_lt, true, ◌<◌, ◌≤◌, ◌∷◌, if◌then◌else◌}
use Rattle.std.proofs.lemmas.Bool.{false_from_ne_true, lt-ltb, ltb-true}
use Rattle.std.specs.Option.{option_map, option_map_or}
use Rattle.base_types.specs.declared.user.User.{User}
use Rattle.host_cache.specs.Seen.{Kept, Seen, after_length, after_write, seen}
use Rattle.host_walk.specs.Views.{nature_told}
use Rattle.need_host.specs.Walks.{rights_on}
use Rattle.tree_calls.specs.declared.part.Status.{Status as StatusOf}
use Rattle.tree_calls.specs.declared.reply.Refusal.TheVariants.{NoEntry}
use Rattle.tree_laws.specs.Parts.{Nature}
use Rattle.base_types.specs.declared.ids.Fid.{Fid}
use Rattle.host_calls.specs.Answering.{ChangesOwn, changes_nothing}
use Rattle.host_calls.specs.Answering.ChangesOwn.{FreesIt, KeepsAll, UsesIt, WritesIt}
use Rattle.host_calls.specs.Looking.{CanRead, IsBacked, facts_of, meant, of_seen}
use Rattle.host_calls.specs.declared.looking.Verdict.{Verdict}
use Rattle.host_calls.specs.declared.looking.Verdict.TheVariants.{Asks, Does, Frees, Gives, Lists, Reads, Shows, Syncs}
use Rattle.host_calls.specs.declared.looking.Verdict.TheVariants.{Tells, Uses, Writes}
use Rattle.host_leaves.specs.Giving.{bytes_from}
use Rattle.host_tables.specs.Tables.{content}
use Rattle.host_tables.specs.declared.draft.Draft.{Draft}
use Rattle.host_tables.specs.declared.tables.Tables.{Tables}
use Rattle.host_walk.specs.Bytes.{bytes_seen as bytes_shown}
use Rattle.need_host.specs.Calls.{reply_now}
use Rattle.token_types.specs.declared.token.Kind.{Kind}
use Rattle.token_types.specs.declared.token.Kind.TheVariants.{Bytes, Lock, Opening, Status}
use Rattle.tree_calls.specs.declared.call.Call.{Call}
use Rattle.tree_calls.specs.declared.reply.Refusal.{Refusal}
use Rattle.tree_calls.specs.declared.reply.Reply.TheVariants.{Facts, Ok as Done, Refused as IsRefused}
use Rattle.tree_laws.specs.Parts.Part.{ByteAt, Size}

pub bytes_same : (m : Tables) (fid : Fid) (at n : ℕ) → bytes_from m fid at n ≡ bytes_shown (content m.cache) fid at n
bytes_same m fid at zero = refl
bytes_same m fid at (suc n) = ap (λ bytes. content m.cache fid (ByteAt at) ∷ bytes) (bytes_same m fid (suc at) n)

-- a verdict without a value of its own
abbrev pub is_plain : Verdict → Type 0
is_plain Does = Unit {0}
is_plain (Writes fid from to) = Unit {0}
is_plain (Uses fid kind) = Unit {0}
is_plain Frees = Unit {0}
is_plain _ = ⊥

pub plain_reply : (m : Tables) (call : Call) (verdict : Verdict) → is_plain verdict →
    reply_now (meant m call (Ok verdict)) ≡ Some Done
plain_reply m call Does h = refl
plain_reply m call (Writes fid from to) h = refl
plain_reply m call (Uses fid (Lock writing span)) h = refl
plain_reply m call (Uses fid (Opening kind)) h = refl
plain_reply m call (Uses fid (Bytes update span)) h = refl
plain_reply m call (Uses fid (Status update)) h = refl
plain_reply m call Frees h = refl
plain_reply m call (Reads fid span) h = elim h [ ]
plain_reply m call (Lists fid) h = elim h [ ]
plain_reply m call (Tells fid) h = elim h [ ]
plain_reply m call (Shows fid which) h = elim h [ ]
plain_reply m call (Syncs fid) h = elim h [ ]
plain_reply m call Gives h = elim h [ ]
plain_reply m call (Asks question) h = elim h [ ]

-- what is replied after the change is what was meant before it
module _ (call : Call) (m : Tables) (draft : Draft) (new : Tables) (after : Draft) where
  pub reply_same : (verdict : Result Verdict Refusal) → ChangesOwn call m draft new after verdict →
      reply_now (meant new call verdict) ≡ reply_now (meant m call verdict)
  reply_same verdict (WritesIt fid from to w e) = refl
  reply_same verdict (UsesIt fid (Lock writing span) label is b) = refl
  reply_same verdict (UsesIt fid (Opening kind) label is b) = refl
  reply_same verdict (UsesIt fid (Bytes update span) label is b) = refl
  reply_same verdict (UsesIt fid (Status update) label is b) = refl
  reply_same verdict (FreesIt f e) = refl
  reply_same verdict (KeepsAll v nothing is e) = ap (λ (x : Tables). reply_now (meant x call v)) is

  pub read_same : (verdict : Result Verdict Refusal) → ChangesOwn call m draft new after verdict →
      IsBacked m call verdict → CanRead new verdict
  read_same verdict (WritesIt fid from to w e) b = tt
  read_same verdict (UsesIt fid kind label is u) b = tt
  read_same verdict (FreesIt f e) b = tt
  read_same verdict (KeepsAll (Ok (Reads fid span)) nothing is e) b = subst (λ (x : Tables). CanRead x (Ok (Reads fid
      span))) (sym is) b
  read_same verdict (KeepsAll (Ok Does) nothing is e) b = tt
  read_same verdict (KeepsAll (Ok (Lists fid)) nothing is e) b = tt
  read_same verdict (KeepsAll (Ok (Tells fid)) nothing is e) b = tt
  read_same verdict (KeepsAll (Ok (Shows fid which)) nothing is e) b = tt
  read_same verdict (KeepsAll (Ok (Writes fid from to)) nothing is e) b = tt
  read_same verdict (KeepsAll (Ok (Uses fid kind)) nothing is e) b = tt
  read_same verdict (KeepsAll (Ok Frees) nothing is e) b = tt
  read_same verdict (KeepsAll (Ok (Syncs fid)) nothing is e) b = tt
  read_same verdict (KeepsAll (Ok Gives) nothing is e) b = tt
  read_same verdict (KeepsAll (Ok (Asks question)) nothing is e) b = tt
  read_same verdict (KeepsAll (Err refusal) nothing is e) b = tt

-- what is told of an object that is seen
pub facts_so : (kept : Kept) (user : User) (fid : Fid) (status : StatusOf) (length : ℕ) (owner : List ℕ) (rights : ℕ) →
    Some status ≡ (seen kept).status fid → length ≡ status.length → length < 4294967296 → owner ≡ status.owner →
    rights ≡ rights_on (nature_told status) user →
    Facts (record { dir = status.dir; length = length; owner = owner; rights = rights })
    ≡ of_seen (content kept) fid (facts_of (content kept) user fid)
facts_so kept user fid status length owner rights shown is range o r =
    let size : length ≡ min status.length 4294967295 = omega (arith, is, range) in
    (λ i. Facts (record { dir = status.dir; length = size i; owner = o i; rights = r i }))
    ∙ ap (λ (s : Option StatusOf). option_map_or
    (λ (nature : Nature). Facts (record {
      dir = nature.dir;
      length = min (option_map_or (λ (x : StatusOf). x.length) s 0) 4294967295;
      owner = nature.owner;
      rights = rights_on nature user;
    })) (option_map nature_told s) (IsRefused NoEntry)) shown

-- what a write shows
module _ (old mid : Kept) (fid : Fid) (from to : ℕ) (bytes : List ℕ)
    (written : seen mid ≡ after_write (seen old) fid from bytes) where
  abbrev shown_after : Bool → Seen
  shown_after b = if b then after_length (after_write (seen old) fid from bytes) fid to
      else after_write (seen old) fid from bytes

  same_size : content mid fid Size ≡ content old fid Size
  same_size = ap (λ (s : Seen). option_map_or (λ (status : StatusOf). status.length) (s.status fid) 0) written

  pub wrote_long : (new : Kept) → seen new ≡ after_length (seen mid) fid to → content mid fid Size < to →
      seen new ≡ (if nat_lt (content old fid Size) to then after_length (after_write (seen old) fid from bytes) fid to
      else after_write (seen old) fid from bytes)
  wrote_long new is h =
      is ∙ ap (λ (s : Seen). after_length s fid to) written
      ∙ sym (ap shown_after (sym (ap (λ k. nat_lt k to) same_size) ∙ lt-ltb (content mid fid Size) to h))

  pub wrote_short : to ≤ content mid fid Size →
      seen mid ≡ (if nat_lt (content old fid Size) to then after_length (after_write (seen old) fid from bytes) fid to
      else after_write (seen old) fid from bytes)
  wrote_short h =
      written ∙ sym (ap shown_after (sym (ap (λ k. nat_lt k to) same_size)
      ∙ false_from_ne_true (nat_lt (content mid fid Size) to)
      (λ e. absurd (omega (arith, h, ltb-true (content mid fid Size) to e)))))

-- a verdict that isn't one of these changes nothing
pub keeps : (verdict : Verdict) → ((fid : Fid) (from to : ℕ) → verdict ≡ Writes fid from to → ⊥) →
    ((fid : Fid) (kind : Kind) → verdict ≡ Uses fid kind → ⊥) → (verdict ≡ Frees → ⊥) →
    changes_nothing (Ok verdict) ≡ true
keeps (Writes fid from to) w u f = absurd (w fid from to refl)
keeps (Uses fid kind) w u f = absurd (u fid kind refl)
keeps Frees w u f = absurd (f refl)
keeps Does w u f = refl
keeps (Reads fid span) w u f = refl
keeps (Lists fid) w u f = refl
keeps (Tells fid) w u f = refl
keeps (Shows fid which) w u f = refl
keeps (Syncs fid) w u f = refl
keeps Gives w u f = refl
keeps (Asks question) w u f = refl

abbrev label_in : Option (Bool × List ℕ) → List ℕ
label_in None = []
label_in (Some (lock, label)) = label

abbrev some_label : Bool → List ℕ → Option (Bool × List ℕ)
some_label lock label = Some (lock, label)

-- a label that is told twice
pub taken_is : (o : Option (Bool × List ℕ)) (a b : Bool) (x y : List ℕ) →
    ◌≡◌ {A = Option (Bool × List ℕ)} o (Some (a, x)) → ◌≡◌ {A = Option (Bool × List ℕ)} o (Some (b, y)) →
    ◌≡◌ {A = Option (Bool × List ℕ)} o (Some (a, y))
taken_is o a b x y e f =
    let same : x ≡ y = sym (ap label_in e) ∙ ap label_in f in
    e ∙ ap (λ (l : List ℕ). some_label a l) same

-- an answer is the host's
pub host_same : (call : Call) (m : Tables) (draft : Draft) (new : Tables) (after : Draft)
    (verdict : Result Verdict Refusal) → ChangesOwn call m draft new after verdict → new.host ≡ m.host
host_same call m draft new after verdict (WritesIt fid from to w e) = ap (λ (x : Tables). x.host) w.tables
host_same call m draft new after verdict (UsesIt fid kind label is b) = ap (λ (x : Tables). x.host) b.takes.tables
host_same call m draft new after verdict (FreesIt f e) = ap (λ (x : Tables). x.host) f.ends.tables
host_same call m draft new after verdict (KeepsAll v nothing is e) = ap (λ (x : Tables). x.host) is
