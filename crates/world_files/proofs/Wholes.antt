-- A front of a schema that is too long: what is said of it holds of all of the schema.
use Rattle.std.proofs.Common.{◌≡◌, refl, ℕ, ◌<◌, ◌≤◌, List, length, Option, Some, None, IfSome, inl, inr, arith}
use Rattle.gq_lexer.specs.declared.lexer.TheConstants.{MAX_BYTES}
use Rattle.gq_schema.specs.declared.fault.SchemaFault.{SchemaFault}
use Rattle.gq_schema.specs.declared.fault.SchemaFault.TheVariants as schema
use Rattle.gq_schema.specs.Reading.{IsBroken, IsFaultOf}
use Rattle.gq_parser.specs.Fault.{most_bytes}
use Rattle.schema_syntax.specs.declared.fault.SyntaxFault.{SyntaxFault}
use Rattle.schema_syntax.specs.Text.{IsTextFault, too_long, of_tokens, before_lexical, memory}
use Rattle.world.specs.declared.fault.WorldFault.{WorldFault}
use Rattle.world.specs.declared.fault.WorldFault.TheVariants as world
use Rattle.world.specs.Sources.{TableOf}
use Rattle.world.specs.Worlds.{WorldOf, IsWorld, IsRefusal, IsRefusedOver}
use Rattle.world_files.specs.Opening.{IsWholeOrLong, IsTextOf}

-- a front that is short is all of the bytes
pub short_whole : (bytes text : List ℕ) → length text ≤ most_bytes → IsWholeOrLong MAX_BYTES bytes text → text ≡ bytes
short_whole bytes text short (inl same) = same
short_whole bytes text short (inr long) = absurd (omega (arith, short, long.1))

-- a world is of all of the schema
pub world_whole : (known : Option (List ℕ)) (text bindings : List ℕ) (tables : List TableOf) (max : Option ℕ) (w : WorldOf)
    → IfSome known (λ bytes. IsWholeOrLong MAX_BYTES bytes text) → IsWorld text bindings tables max w → IsTextOf known text
world_whole None text bindings tables max w front is = tt
world_whole (Some bytes) text bindings tables max w front is = short_whole bytes text is.says.says.short front

-- texts that are too long have the same fault
pub long_fault : (bytes text : List ℕ) (fault : SyntaxFault) → MAX_BYTES < length bytes → MAX_BYTES < length text → IsTextFault text fault → IsTextFault bytes fault
long_fault bytes text _ all front (too_long more) = too_long all
long_fault bytes text _ all front (of_tokens tokens short reads is) = absurd (omega (arith, short, front))
long_fault bytes text _ all front (before_lexical tokens lexical short reads is) = absurd (omega (arith, short, front))
long_fault bytes text _ all front memory = memory

-- a text that is too long breaks no rule
pub long_unbroken : (text : List ℕ) (fault : SchemaFault) → MAX_BYTES < length text → IsBroken text fault → ⊥
long_unbroken text fault front is = let short : length text ≤ most_bytes = is.says.short in omega (arith, short, front)

pub long_fault_of : (bytes text : List ℕ) (fault : SchemaFault) → MAX_BYTES < length bytes → MAX_BYTES < length text → IsFaultOf text fault → IsFaultOf bytes fault
long_fault_of bytes text (schema.Syntax place) all front is = long_fault bytes text _ all front is
long_fault_of bytes text (schema.NotServed place) all front is = long_fault bytes text _ all front is
long_fault_of bytes text schema.NoMemory all front is = tt
long_fault_of bytes text (schema.Duplicate place) all front is = absurd (long_unbroken text _ front is)
long_fault_of bytes text (schema.UnknownType place) all front is = absurd (long_unbroken text _ front is)
long_fault_of bytes text (schema.BadImplements place) all front is = absurd (long_unbroken text _ front is)
long_fault_of bytes text schema.NoQueryRoot all front is = absurd (long_unbroken text _ front is)
long_fault_of bytes text (schema.ReservedName place) all front is = absurd (long_unbroken text _ front is)
long_fault_of bytes text (schema.BadBinding line) all front is = absurd (long_unbroken text _ front is)
long_fault_of bytes text (schema.BadKind place) all front is = absurd (long_unbroken text _ front is)
long_fault_of bytes text (schema.BadDefault place) all front is = absurd (long_unbroken text _ front is)

-- over a text that is too long there is nothing to refuse
pub long_over : (text bindings : List ℕ) (tables : List TableOf) (max : Option ℕ) (fault : WorldFault) → MAX_BYTES < length text → IsRefusedOver text bindings tables max fault → ⊥
long_over text bindings tables max fault front is = let short : length text ≤ most_bytes = is.says.says.short in omega (arith, short, front)

-- the refusal of a front that is too long is that of all of the schema
pub long_refusal : (bytes text bindings : List ℕ) (tables : List TableOf) (max : Option ℕ) (fault : WorldFault) → MAX_BYTES < length bytes → MAX_BYTES < length text
    → IsRefusal text bindings tables max fault → IsRefusal bytes bindings tables max fault
long_refusal bytes text bindings tables max world.BadLimit all front is = is
long_refusal bytes text bindings tables max (world.Schema fault) all front (inl is) = inl (is.0, long_fault_of bytes text fault all front is.1)
long_refusal bytes text bindings tables max (world.Schema fault) all front (inr is) = absurd (long_over text bindings tables max _ front is)
long_refusal bytes text bindings tables max world.DuplicateTable all front is = absurd (long_over text bindings tables max _ front is)
long_refusal bytes text bindings tables max world.NoSuchTable all front is = absurd (long_over text bindings tables max _ front is)
long_refusal bytes text bindings tables max world.NoSuchColumn all front is = absurd (long_over text bindings tables max _ front is)
long_refusal bytes text bindings tables max world.NoMemory all front is = is

-- a refusal is of all of the schema
pub refusal_whole : (known : Option (List ℕ)) (text bindings : List ℕ) (tables : List TableOf) (max : Option ℕ) (fault : WorldFault)
    → IfSome known (λ bytes. IsWholeOrLong MAX_BYTES bytes text) → IsRefusal text bindings tables max fault
    → (schema : List ℕ) × IsTextOf known schema × IsRefusal schema bindings tables max fault
refusal_whole None text bindings tables max fault front is = (text, tt, is)
refusal_whole (Some bytes) text bindings tables max fault (inl same) is = (text, same, is)
refusal_whole (Some bytes) text bindings tables max fault (inr long) is = (bytes, refl, long_refusal bytes text bindings tables max fault long.0 long.1 is)
