-- Own: how the fault of a part is seen as that of the whole. Want of memory stays what it is.
use Rattle.n41_attr.specs.declared.fault.AttrFault.{AttrFault}
use Rattle.n41_attr.specs.declared.fault.BitmapFault.{BitmapFault}
use Rattle.n41_attr.specs.declared.fault.OpFault.{OpFault}
use Rattle.n41_attr.specs.declared.fault.AttrFault.TheVariants as attr
use Rattle.n41_attr.specs.declared.fault.BitmapFault.TheVariants as bitmap
use Rattle.n41_attr.specs.declared.fault.OpFault.TheVariants as op

abbrev pub attr_of_bitmap : BitmapFault → AttrFault
attr_of_bitmap (bitmap.Xdr f) = attr.Xdr f
attr_of_bitmap bitmap.NoMemory = attr.NoMemory

abbrev pub op_of_bitmap : BitmapFault → OpFault
op_of_bitmap (bitmap.Xdr f) = op.Xdr f
op_of_bitmap bitmap.NoMemory = op.NoMemory

abbrev pub op_of_attr : AttrFault → OpFault
op_of_attr attr.NoMemory = op.NoMemory
op_of_attr (attr.Xdr f) = op.Attr (attr.Xdr f)
op_of_attr (attr.Unknown n) = op.Attr (attr.Unknown n)
op_of_attr attr.Length = op.Attr attr.Length
