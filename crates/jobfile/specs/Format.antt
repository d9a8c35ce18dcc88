-- The format of a job file, as a relation between bytes and what they say.
use Rattle.std.specs.Prelude.{◌≡◌, ℕ, ◌-◌, List, [], ◌∷◌, ◌++◌, length, Some, None, Ok, Option}
use Rattle.records.specs.Split.{two_bytes}
use Rattle.items.specs.declared.item.Header.{Header}
use Rattle.items.specs.Layout.{Entry, text_in}
use Rattle.model.specs.Contents.{Contents, silence, with_item, first_of}
use Rattle.model.specs.Weigh.{opening, weigh}
use Rattle.model.specs.Closing.{closing}
use Rattle.golog.specs.Programs.{Prog}
use Rattle.golog.specs.Points.{OneWay}
use Rattle.golog.specs.Grammar.{TextReads}
use Rattle.jobfile.specs.Verdict.{Said, names_in, listen}

-- The bytes are a record: two of length, two of kind, the body, and then the rest.
pub record IsRecord (bytes : List ℕ) (kind : ℕ) (body rest : List ℕ) : Type 0 where
  pub l0 : ℕ
  pub l1 : ℕ
  pub k0 : ℕ
  pub k1 : ℕ
  pub bytes_are : bytes ≡ l0 ∷ (l1 ∷ (k0 ∷ (k1 ∷ (body ++ rest))))
  pub length_is : two_bytes l0 l1 ≡ length body
  pub kind_is : two_bytes k0 k1 ≡ kind

-- Records one after another, each without fault behind those before it, take what was said, and the program so far, to what is said at the end.
pub data Records (h : Header) (end : ℕ) : List ℕ → Contents → Option Prog → Contents → Option Prog → Type 0 where
  no_more : {c : Contents} {o : Option Prog} → Records h end [] c o c o
  one_more : {bytes : List ℕ} {kind : ℕ} {body rest : List ℕ} {c d : Contents} {o p q : Option Prog} {i : Entry} → IsRecord bytes kind body rest →
      weigh h c (end - length bytes) kind body ≡ Ok i → listen (text_in i) (with_item c i) o ≡ Ok p →
      Records h end rest (with_item c i) p d q → Records h end bytes c o d q

-- A job file: a head, then records, at the end no fault; the routine's text reads as the program, by the grammar, and the program has one way.
pub record IsJobFile (file : List ℕ) (said : Said) : Type 0 where
  pub kind : ℕ
  pub body : List ℕ
  pub rest : List ℕ
  pub starts : IsRecord file kind body rest
  pub head : opening 0 kind body ≡ Ok said.head
  pub records : Records said.head (length file) rest silence None said.contents (Some said.program)
  pub complete : closing said.head said.contents (length file) ≡ None
  pub text : List ℕ
  pub text_is : first_of said.contents.texts ≡ Some text
  pub reads : TextReads (names_in said.contents) text said.program
  pub one_way : OneWay said.program
