-- The line that reports a complaint about a program: `program line L KIND`.
use Rattle.std.specs.Prelude.{ℕ, List, [], ◌∷◌, ◌++◌, codes}
use Rattle.std.specs.Fmt.{decimal}
use Rattle.c_types.specs.declared.fault.LimitKind.{LimitKind}
use Rattle.c_types.specs.declared.fault.LimitKind.TheVariants as limit
use Rattle.cnvm_compile.specs.declared.complaint.Complaint.{Complaint}
use Rattle.cnvm_compile.specs.declared.complaint.Complaint.TheVariants.{BadByte, BadNumber}
use Rattle.cnvm_compile.specs.declared.complaint.Complaint.TheVariants.{OpenComment, Syntax}
use Rattle.cnvm_compile.specs.declared.complaint.Complaint.TheVariants.{TooDeep, UnknownName, Twice}
use Rattle.cnvm_compile.specs.declared.complaint.Complaint.TheVariants.{Mismatch, NotAssignable}
use Rattle.cnvm_compile.specs.declared.complaint.Complaint.TheVariants.{Arity, TooBig, NoRoot}
use Rattle.cnvm_compile.specs.declared.complaint.Complaint.TheVariants.{BadTx}

abbrev pub limit_name : LimitKind → List ℕ
limit_name limit.Array = codes "array"
limit_name limit.Struct = codes "struct"
limit_name limit.Root = codes "root"
limit_name limit.Pointer = codes "pointer"
limit_name limit.Structs = codes "structs"
limit_name limit.Functions = codes "functions"
limit_name limit.Parameters = codes "parameters"

-- the kind of a complaint; a broken limit is reported with its name and the value that breaks it
abbrev pub complaint_kind : Complaint → List ℕ
complaint_kind BadByte = codes "bad byte"
complaint_kind BadNumber = codes "bad number"
complaint_kind OpenComment = codes "open comment"
complaint_kind Syntax = codes "syntax"
complaint_kind TooDeep = codes "too deep"
complaint_kind UnknownName = codes "unknown name"
complaint_kind Twice = codes "twice"
complaint_kind Mismatch = codes "mismatch"
complaint_kind NotAssignable = codes "not assignable"
complaint_kind Arity = codes "arity"
complaint_kind (TooBig limit value) = codes "too big " ++ (limit_name limit ++ (32 ∷ decimal value))
complaint_kind NoRoot = codes "no root"
complaint_kind BadTx = codes "bad tx"

abbrev pub program_line : ℕ → List ℕ → List ℕ
program_line line kind = codes "program line " ++ (decimal line ++ (32 ∷ (kind ++ 10 ∷ [])))

abbrev pub complaint_line : ℕ → Complaint → List ℕ
complaint_line line complaint = program_line line (complaint_kind complaint)
