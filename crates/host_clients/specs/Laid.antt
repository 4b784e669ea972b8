-- What a host lays out in buffers: texts, a key, keys, a reply. Says when that is well formed, and why it is refused.
use Rattle.std.specs.Prelude.{ℕ, ◌≡◌, ◌≢◌, ◌<◌, ◌≤◌, ◌+◌, List, length, take, get_or, sum, All, IsUtf8}
use Rattle.load_memory.specs.Cells.{IsCut, cut}
use Rattle.load_memory.specs.Keys.{KeyOf}
use Rattle.load_memory.specs.Outcomes.{ItemOf}
use Rattle.flat_orders.specs.Written.{key_said}
use Rattle.flat_rows.specs.Faults.{ReplyFault}
use Rattle.flat_rows.specs.Replies.{reply_items}
use Rattle.flat_rows.specs.declared.fault.FlatFault.{FlatFault}
use Rattle.flat_rows.specs.declared.reply.FlatReply.{FlatReply}
use Rattle.host_clients.specs.Faults.{flat_fault}
use Rattle.load_rounds.specs.Reading.{KeysOf}
use Rattle.host_clients.specs.Loads.{keys_in}
use Rattle.host_clients.specs.declared.asked_keys.FlatKeys.{FlatKeys}
use Rattle.host_clients.specs.declared.fault.Fault.{Fault}
use Rattle.host_clients.specs.declared.fault.Fault.TheVariants as fault

-- ---- texts

-- texts, by their bytes and the places where they end
pub record TextsOf : Type 0 where
  pub ends : List ℕ
  pub bytes : List ℕ

abbrev pub texts_at : List ℕ → List ℕ → TextsOf
texts_at ends bytes = record { ends = ends; bytes = bytes }

-- the bytes are UTF-8, and the places rise to their end, each at the end of a character
abbrev pub AreTexts : TextsOf → Type 0
AreTexts t = IsUtf8 t.bytes × IsCut t.bytes 0 t.ends

-- ---- a key

-- the key that is its texts
abbrev pub key_at : TextsOf → KeyOf
key_at t = key_said (cut t.bytes 0 t.ends)

-- the texts are those of a key of this width, which is as many as its loader has columns
pub record AreKeyTexts (width : ℕ) (t : TextsOf) : Type 0 where
  pub texts : AreTexts t
  pub fit : length t.ends ≡ width

-- says why the texts are no key of this width
abbrev pub KeyFault : ℕ → TextsOf → Fault → Type 0
KeyFault width t fault.NotUtf8 = ¬ (IsUtf8 t.bytes)
KeyFault width t fault.BadEnds = IsUtf8 t.bytes × ¬ (IsCut t.bytes 0 t.ends)
KeyFault width t fault.BadKey = AreTexts t × (length t.ends ≢ width)
KeyFault width t fault.NoMemory = AreKeyTexts width t
KeyFault width t e = ⊥

-- ---- keys of a loader

-- for each key how many texts it has, and the texts of all
pub record LaidKeys : Type 0 where
  pub loader : ℕ
  pub shapes : List ℕ
  pub texts : TextsOf

abbrev pub laid_keys : FlatKeys → LaidKeys
laid_keys k = record {
  loader = k.loader;
  shapes = k.shapes.now;
  texts = texts_at k.ends.now k.bytes.now;
}

abbrev pub keys_at : LaidKeys → KeysOf
keys_at k = record { loader = k.loader; keys = keys_in k.shapes k.texts.ends k.texts.bytes }

-- each of the first `i` keys has as many texts as the loader has columns, and there are as many texts as these keys have
pub record AreKeysTo (width : ℕ) (k : LaidKeys) (i : ℕ) : Type 0 where
  pub texts : AreTexts k.texts
  pub fit : All (λ n. n ≡ width) (take i k.shapes)
  pub enough : sum (take i k.shapes) ≤ length k.texts.ends

-- each key has as many texts as the loader has columns, and there are just the texts that they have
pub record AreKeys (width : ℕ) (k : LaidKeys) : Type 0 where
  pub texts : AreTexts k.texts
  pub fit : All (λ n. n ≡ width) k.shapes
  pub all : sum k.shapes ≡ length k.texts.ends

-- says why they are no keys: the texts aren't well formed; a key, which is the first with a fault, has another number of texts than the
-- loader has columns, or more than there are; or texts are left
abbrev pub KeysFault : ℕ → LaidKeys → Fault → Type 0
KeysFault width k fault.NotUtf8 = ¬ (IsUtf8 k.texts.bytes)
KeysFault width k fault.BadEnds = IsUtf8 k.texts.bytes × ¬ (IsCut k.texts.bytes 0 k.texts.ends)
KeysFault width k fault.BadKey = (i : ℕ) × AreKeysTo width k i × (i < length k.shapes)
    × (get_or k.shapes i 0 ≢ width)
KeysFault width k fault.TooFewTexts = (i : ℕ) × AreKeysTo width k i × (i < length k.shapes)
    × (length k.texts.ends < sum (take i k.shapes) + get_or k.shapes i 0)
KeysFault width k fault.TextsLeft = AreTexts k.texts × All (λ n. n ≡ width) k.shapes
    × (sum k.shapes < length k.texts.ends)
KeysFault width k fault.NoMemory = AreTexts k.texts
KeysFault width k e = ⊥

-- says why a key of `n` texts isn't there, where texts from `at` on are left of `count`, and keys have `width`
abbrev pub ShapeFault : ℕ → ℕ → ℕ → ℕ → Fault → Type 0
ShapeFault width n count at fault.BadKey = n ≢ width
ShapeFault width n count at fault.TooFewTexts = count < at + n
ShapeFault width n count at fault.NoMemory = Unit {0}
ShapeFault width n count at e = ⊥

-- ---- a reply

pub record LaidReply : Type 0 where
  pub columns : ℕ
  pub rows : List ℕ
  pub texts : TextsOf

abbrev pub reply_at : ℕ → List ℕ → List ℕ → List ℕ → LaidReply
reply_at columns rows ends bytes =
    record { columns = columns; rows = rows; texts = texts_at ends bytes }

abbrev pub laid_reply : FlatReply → LaidReply
laid_reply r = reply_at r.columns r.rows.now r.ends.now r.bytes.now

-- the items that it says
abbrev pub items_at : LaidReply → List ItemOf
items_at r = reply_items r.columns r.rows r.texts.ends r.texts.bytes

-- says why it is refused: the fault is its first, or memory ran out before that was found
abbrev pub IsReplyFault : LaidReply → Fault → Type 0
IsReplyFault r e = (found : FlatFault) × (e ≡ flat_fault found)
    × ReplyFault r.columns r.rows r.texts.ends r.texts.bytes found
