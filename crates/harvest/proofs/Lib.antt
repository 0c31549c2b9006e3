mod Amounts
mod Laws
